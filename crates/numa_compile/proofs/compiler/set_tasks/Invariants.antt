use Rattle.std.proofs.Common.{◌≡◌, ◌+◌, ◌≤◌, take, length, slice_get}
use Rattle.numa_compile.specs.Copies.{AreCopies, HasTasks, IsUnderWay}
use Rattle.numa_compile.specs.Recompiling.{Rises}
use Rattle.numa_compile.proofs.compiler.set_tasks.Given as goal

abbrev pub invariant-loop-k : goal.invariant-loop-k
invariant-loop-k l = record {
  under_way : IsUnderWay l.space l.plan l.records.keys;
  copies : AreCopies (slice_get l.records.keys) l.space.ranges l.plan.runs;
  tasks : HasTasks (slice_get l.records.keys) (take l.k l.space.tasks) l.plan;
  runs : l.plan.runs ≡ l.initial.plan.runs;
  few : length l.plan.tasks ≤ l.k;
  room : length l.records.keys ≤ length l.initial.records.keys + l.k;
  rises : Rises l.initial.steps l.steps;
}
