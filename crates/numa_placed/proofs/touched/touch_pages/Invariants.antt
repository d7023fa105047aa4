-- How far the walk is.
use Rattle.std.proofs.Common.{◌≡◌, ℕ, ◌+◌, ◌-◌, ◌≤◌}
use Rattle.numa_placed.specs.Binds.{asked_by}
use Rattle.numa_placed.specs.Shifts.{AreRooms}
use Rattle.numa_placed.specs.Turns.{AreKept, spots_of}
use Rattle.numa_placed.specs.Walks.{IsWalked}
use Rattle.numa_placed.proofs.touched.touch_pages.Given as goal

abbrev pub invariant-loop-page : goal.invariant-loop-page
invariant-loop-page l = record {
  low : l.fn.first ≤ l.page;
  high : l.page ≤ l.to;
  kept : AreKept l.places;
  few : l.walk.told.moved + l.walk.told.left ≤ l.page;
  limit : l.places.map.max_ranges ≡ l.fn.places.map.max_ranges;
  walked : (room : ℕ → ℕ) → AreRooms l.fn.walk.rooms room → IsWalked
      (asked_by l.space l.wants l.fn.first (l.to - l.fn.first) l.touch.task l.touch.cpu)
      (spots_of l.fn.places) room l.page (spots_of l.places) l.walk;
}

abbrev pub decreases-loop-page : goal.decreases-loop-page
decreases-loop-page l = l.to - l.page
