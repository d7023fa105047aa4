-- The cycles of the pages so far are kept in other nodes.
use Rattle.std.proofs.Common.{◌≡◌, ◌-◌, ◌≤◌, ◌^◌}
use Rattle.numa_placed.specs.Renames.{IsTidied}
use Rattle.numa_placed.proofs.tidy.tidied_copy.Given as goal

abbrev pub invariant-loop-page : goal.invariant-loop-page
invariant-loop-page l = record {
  tidied : IsTidied l.places l.next l.last l.page;
  within : l.page ≤ 2 ^ 35;
  limit : l.next.map.max_ranges ≡ l.places.map.max_ranges;
}

abbrev pub decreases-loop-page : goal.decreases-loop-page
decreases-loop-page l = 2 ^ 35 - l.page
