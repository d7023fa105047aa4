-- The pages so far.
use Rattle.std.proofs.Common.{◌≤◌, ◌-◌}
use Rattle.numa_huge.specs.Huge.{huge_at}
use Rattle.numa_placed.specs.Laid.{spot_at}
use Rattle.numa_words.specs.Touching.{nobody}
use Rattle.numa_words.proofs.Touched.{LieUntil}
use Rattle.numa_words.proofs.touching.state_all.Given as goal

abbrev pub invariant-loop-page : goal.invariant-loop-page
invariant-loop-page l = record {
  near : l.page ≤ 67108864;
  so : LieUntil (nobody l.space.machine.nodes) (huge_at l.places.runs)
      (spot_at l.initial.lying) (spot_at l.lying) l.page;
}

abbrev pub decreases-loop-page : goal.decreases-loop-page
decreases-loop-page l = 67108864 - l.page
