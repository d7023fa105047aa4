use Rattle.std.proofs.Common.{◌≡◌, ◌<◌, ℕ, [], length, slice_index_or}
use Rattle.numa_fault.specs.Worker.{parts_of}
use Rattle.numa_fault.specs.declared.worker.FaultWorker.{FaultWorker}
use Rattle.numa_fault.proofs.gathering.make_room.Given as goal

abbrev pub invariant-loop-w : goal.invariant-loop-w
invariant-loop-w l = record {
  long : length l.workers ≡ length l.fn.workers;
  same : (w : ℕ) (d : FaultWorker) → w < length l.workers → parts_of (slice_index_or l.workers w d)
      ≡ parts_of (slice_index_or l.fn.workers w d);
  ready : (w : ℕ) (d : FaultWorker) → w < l.w → ((slice_index_or l.workers w d).kept ≡ [])
      × ((slice_index_or l.workers w d).room ≡ l.answers);
}
