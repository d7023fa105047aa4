-- The pages from this one on are still to be touched, and those before it were.
use Rattle.std.proofs.Common.{◌≤◌, ◌+◌, ◌-◌, ◌*◌}
use Rattle.numa_placed.specs.Binds.{nodes_in}
use Rattle.numa_huge.specs.Huge.{places_of}
use Rattle.numa_huge.specs.Kept.{Keeps}
use Rattle.numa_huge.specs.Moves.{touch_from, touched_pages}
use Rattle.numa_huge.specs.Tallies.{AreFew}
use Rattle.numa_huge.proofs.Touched.{IsTouching}
use Rattle.numa_huge.proofs.places.HugePlaces.populated.Given as goal

abbrev pub invariant-loop-page : goal.invariant-loop-page
invariant-loop-page l = record {
  high : l.page ≤ l.first + l.pages;
  keeps : Keeps (places_of l.self) (places_of l.touched);
  few : AreFew l.arrived l.page;
  so : IsTouching (λ page. nodes_in l.space l.task l.cpu (page * 512)) (touched_pages
      (λ page. nodes_in l.space l.task l.cpu (page * 512)) l.first l.pages
      (touch_from (places_of l.self))) l.page (l.first + l.pages - l.page) l.touched l.arrived;
}

abbrev pub decreases-loop-page : goal.decreases-loop-page
decreases-loop-page l = l.first + l.pages - l.page
