use Rattle.std.proofs.Common.{take}
use Rattle.std.specs.List.{slice_range}
use Rattle.numa_ranges.specs.Windows.{starts_in}
use Rattle.numa_plan.specs.Slots.{policy_in}
use Rattle.numa_compile.specs.Copies.{AreCopies}
use Rattle.numa_compile.specs.Recompiling.{WritesRules}
use Rattle.numa_compile.specs.Windows.{WereAdded}
use Rattle.numa_compile.proofs.recompiler.home.gather_homes.Given as goal

abbrev pub invariant-loop-k : goal.invariant-loop-k
invariant-loop-k l = record {
  copies : AreCopies (policy_in l.plan.slots) (slice_range l.space.ranges l.window.from l.k)
      l.runs.items;
  added : WereAdded l.space l.initial.plan l.added.items l.plan;
  writes : WritesRules (starts_in l.window.first l.window.end (take l.k l.space.ranges))
      l.initial.steps l.steps;
}
