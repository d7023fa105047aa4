use Rattle.std.proofs.Common.{◌≡◌, ◌<◌, ◌≤◌, ◌+◌, ◌++◌, ℕ, length, reverse, slice_index_or, vec_len}
use Rattle.std.proofs.Common.{vec_capacity}
use Rattle.numa_fault.specs.Crew.{column}
use Rattle.numa_fault.specs.Turns.{wait}
use Rattle.numa_fault.specs.Worker.{parts_of}
use Rattle.numa_fault.specs.declared.worker.FaultWorker.{FaultWorker}
use Rattle.numa_fault.proofs.gathering.gather.Given as goal

abbrev pub invariant-loop : goal.invariant-loop
invariant-loop l = record {
  long : length l.workers ≡ length l.fn.workers;
  turn : l.turn < length l.workers;
  room : l.count ≤ vec_capacity l.answers;
  full : vec_len l.answers ≡ l.counter;
  gathered : length l.answers.items ≡ l.counter;
  same : (w : ℕ) (d : FaultWorker) → w < length l.workers → parts_of (slice_index_or l.workers w d)
      ≡ parts_of (slice_index_or l.fn.workers w d);
  each : (w : ℕ) (d : FaultWorker) → w < length l.workers
      → column (length l.fn.workers) w l.answers.items
      ++ reverse (slice_index_or l.workers w d).kept
      ≡ reverse (slice_index_or l.fn.workers w d).kept;
  ahead : (w : ℕ) → w < length l.workers → l.turn ≤ w
      → wait (length l.fn.workers) w l.counter + l.turn ≡ w;
  behind : (w : ℕ) → w < l.turn → wait (length l.fn.workers) w l.counter + l.turn
      ≡ w + length l.fn.workers;
}
