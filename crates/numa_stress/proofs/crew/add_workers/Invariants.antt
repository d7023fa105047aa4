use Rattle.std.proofs.Common.{◌≡◌}
use Rattle.std.specs.List.{All}
use Rattle.numa_fault.specs.declared.worker.FaultWorker.{FaultWorker}
use Rattle.numa_stress.proofs.crew.add_workers.Given as goal

-- all seats are of the pools
abbrev pub invariant-loop : goal.invariant-loop
invariant-loop g l =
    (l.seat.table ≡ l.pools.table)
    × All (λ (w : FaultWorker). w.seat.table ≡ l.pools.table) l.workers.items
