-- The pages so far were sent, and counted.
use Rattle.std.proofs.Common.{◌≡◌, ◌+◌, ◌-◌, ◌≤◌}
use Rattle.numa_placed.specs.Binds.{nodes_in, wants_of}
use Rattle.numa_placed.specs.Standing.{Sends}
use Rattle.numa_placed.specs.Turns.{AreKept, spots_of}
use Rattle.numa_placed.proofs.touched.send_pages.Given as goal

abbrev pub invariant-loop-page : goal.invariant-loop-page
invariant-loop-page l = record {
  kept : AreKept l.places;
  limit : l.places.map.max_ranges ≡ l.fn.places.map.max_ranges;
  rises : l.from ≤ l.page;
  within : l.page ≤ l.to;
  few : l.walk.told.moved + l.walk.told.left
      ≤ l.fn.walk.told.moved + l.fn.walk.told.left + (l.page - l.from);
  sent : Sends (λ page. wants_of l.wants page l.spot)
      (nodes_in l.space l.touch.task l.touch.cpu) l.spot l.from l.page
      (spots_of l.fn.places) (spots_of l.places) l.fn.walk l.walk;
}

abbrev pub decreases-loop-page : goal.decreases-loop-page
decreases-loop-page l = l.to - l.page
