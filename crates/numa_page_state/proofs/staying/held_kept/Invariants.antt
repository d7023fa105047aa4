-- The pages counted so far, and those that are left, are all of them.
use Rattle.std.proofs.Common.{◌≡◌, ℕ, ◌+◌, ◌<◌, ◌≤◌, ◌^◌, length}
use Rattle.numa_space.specs.History.{page_of}
use Rattle.numa_placed.specs.Binds.{goals}
use Rattle.numa_placed.specs.Shifts.{AreRooms}
use Rattle.numa_placed.specs.Spots.{spot_at}
use Rattle.numa_page_state.specs.Sending.{held_kept}
use Rattle.numa_page_state.specs.Standing.{IsFront, asked_for}
use Rattle.numa_page_state.proofs.staying.held_kept.Given as goal

abbrev pub invariant-loop-page : goal.invariant-loop-page
invariant-loop-page l = record {
  first : page_of l.said.start ≤ l.front.page;
  front : (room : ℕ → ℕ) → AreRooms l.given room
      → IsFront (asked_for l.space l.said l.toucher) (spot_at l.placed) room l.front;
  counts : (room : ℕ → ℕ) → AreRooms l.given room → l.left
      + held_kept l.page-iterator (asked_for l.space l.said l.toucher)
      (goals (asked_for l.space l.said l.toucher) (spot_at l.placed) room)
      ≡ held_kept l.resident (asked_for l.space l.said l.toucher)
      (goals (asked_for l.space l.said l.toucher) (spot_at l.placed) room);
  few : l.left + length l.page-iterator < 2 ^ 63;
}
