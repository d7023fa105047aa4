use Rattle.std.proofs.Common.{◌≡◌, ℕ, ◌<◌, ◌≤◌, length, slice_get}
use Rattle.numa_plan.specs.Turns.{TellsTurns}
use Rattle.numaplan_handles.proofs.plan_view.list_turns.Given as goal

abbrev pub invariant-loop-place : goal.invariant-loop-place
invariant-loop-place l = record {
  long : length l.room ≡ length l.fn.room;
  told : (at : ℕ) → at < l.place
      → TellsTurns l.plan l.task (slice_get l.plan.runs at) (slice_get l.room at);
  rest : (at : ℕ) → l.place ≤ at → slice_get l.room at ≡ slice_get l.fn.room at;
}
