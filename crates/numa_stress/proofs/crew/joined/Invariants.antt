use Rattle.std.proofs.Common.{◌≡◌, length}
use Rattle.std.specs.List.{All}
use Rattle.numa_fault.specs.declared.worker.FaultWorker.{FaultWorker}
use Rattle.numa_stress.proofs.crew.joined.Given as goal

-- how many workers are left
abbrev pub decreases-loop-worker : goal.decreases-loop-worker
decreases-loop-worker l = length l.workers.items

-- the seat so far and those of the workers that are left are of the pools
abbrev pub invariant-loop-worker : goal.invariant-loop-worker
invariant-loop-worker l =
    (l.seat.table ≡ l.pools.table)
    × All (λ (w : FaultWorker). w.seat.table ≡ l.pools.table) l.workers.items
