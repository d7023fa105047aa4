use Rattle.std.proofs.Common.{length, ◌-◌, ◌≡◌, ◌≤◌, ◌+◌, ◌/◌, ◌++◌, List, drop}
use Rattle.numa_requests.specs.declared.request.Request.{Request}
use Rattle.numa_fault.specs.Crew.{column, Serves}
use Rattle.numa_fault.specs.Worker.{parts_of}
use Rattle.numa_fault.proofs.serving.serve.Given as goal

abbrev pub invariant-loop-request : goal.invariant-loop-request
invariant-loop-request g l = record {
  table : l.worker.seat.table ≡ l.fn.worker.seat.table;
  room : length l.requests / l.step + 1 ≤ l.worker.room;
  served : (done : List Request)
      × (column l.step l.first l.requests ≡ done ++ column l.step 0 (drop l.request l.requests))
      × Serves l.pools.frames done (parts_of l.fn.worker) (parts_of l.worker) l.worker.kept;
}

abbrev pub decreases-loop-request : goal.decreases-loop-request
decreases-loop-request g l = length l.requests - l.request
