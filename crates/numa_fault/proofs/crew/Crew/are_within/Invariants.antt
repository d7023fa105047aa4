use Rattle.std.proofs.Common.{ℕ, ◌<◌, ◌≤◌, length, slice_index_or}
use Rattle.numa_publish.specs.Batches.{Extends}
use Rattle.numa_fault.specs.declared.worker.FaultWorker.{FaultWorker}
use Rattle.numa_fault.proofs.crew.Crew.are_within.Given as goal

-- all that the workers so far have seen is shown
abbrev pub invariant-loop-w : goal.invariant-loop-w
invariant-loop-w l =
    (w : ℕ) (d : FaultWorker) → w < l.w
    → (length (slice_index_or l.fn.workers w d).reader.history ≤ length l.fn.receipt.history)
    × Extends (slice_index_or l.fn.workers w d).reader.history l.fn.receipt.history
    × Extends (slice_index_or l.fn.workers w d).reader.versions l.fn.receipt.versions
