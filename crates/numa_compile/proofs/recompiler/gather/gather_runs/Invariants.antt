use Rattle.std.specs.List.{slice_range}
use Rattle.numa_plan.specs.Slots.{policy_in}
use Rattle.numa_compile.specs.Copies.{AreCopies}
use Rattle.numa_compile.proofs.recompiler.gather.gather_runs.Given as goal

abbrev pub invariant-loop-k : goal.invariant-loop-k
invariant-loop-k l =
    AreCopies (policy_in l.plan.slots) (slice_range l.space.ranges l.window.from l.k) l.runs.items
