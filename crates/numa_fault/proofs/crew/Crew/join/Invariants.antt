use Rattle.std.proofs.Common.{◌≡◌, ◌++◌, List, length}
use Rattle.std.specs.List.{All}
use Rattle.numa_fault.specs.Crew.{IsJoined}
use Rattle.numa_fault.specs.Worker.{WorkerState}
use Rattle.numa_fault.specs.declared.worker.FaultWorker.{FaultWorker}
use Rattle.numa_fault.proofs.crew.Crew.join.Given as goal

-- how many workers are left
abbrev pub decreases-loop-worker : goal.decreases-loop-worker
decreases-loop-worker l = length l.workers.items

-- the seat so far and those of the workers that are left are of the pools, and the others were
-- joined
abbrev pub invariant-loop-worker : goal.invariant-loop-worker
invariant-loop-worker l = record {
  table : l.seat.table ≡ l.pools.table;
  tables : All (λ (w : FaultWorker). w.seat.table ≡ l.pools.table) l.workers.items;
  so_far : (done : List WorkerState) × (l.fn.workers.items ≡ l.workers.items ++ done)
      × IsJoined done l.seat;
}
