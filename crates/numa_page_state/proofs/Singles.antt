-- One page that went from a node, and the rooms once a line says one.
use Rattle.std.proofs.Common.{◌≡◌, ◌≢◌, ℕ, ◌<◌, eqb, List, length, get_or, Option, Some, None}
use Rattle.std.proofs.Common.{refl, ◌∙◌, arith, inl, inr, replicate}
use Rattle.std.proofs.lemmas.List.{length-replicate}
use Rattle.std.specs.Prelude.{if◌then◌else◌}
use Rattle.std.proofs.Math.ListN.{set}
use Rattle.std.proofs.lemmas.Bool.{cases_eq, eq-eqb, ne_eqb}
use Rattle.std.proofs.lemmas.List.{get_or-set_same, get_or-set_other}
use Rattle.numa_placed.specs.Shifts.{AreRooms, endless}
use Rattle.std.proofs.lemmas.Simd.{get_or-replicate}
use Rattle.numa_placed.specs.declared.rooms.Rooms.{Rooms}
use Rattle.numa_placed.specs.declared.spot.Spot.TheVariants.{Stated}
use Rattle.numa_page_state.specs.Outcomes.{rooms_of, told_of}
use Rattle.numa_page_state.specs.Standing.{HaveRoom, TellsOf}

pub one-gone : (list : List ℕ) (from node : ℕ) → from < length list
    → get_or list node 0 ≡ 0 → get_or (set list from 1) node 0 ≡ (if eqb node from then 1 else 0)
one-gone list from node small none =
    elim (cases_eq node from) [
      | inl is ↦ rw (is, eq-eqb from from refl) (get_or-set_same list from 1 0 small)
      | inr other ↦ rw (ne_eqb node from other)
          (get_or-set_other list from node 1 0 other ∙ none)
    ]

pub rooms-none : (rooms : Rooms) (room : Option (ℕ → ℕ)) → AreRooms rooms (λ node. endless)
    → HaveRoom None room → AreRooms rooms (rooms_of room)
rooms-none rooms None are have = are
rooms-none rooms (Some room) are have = absurd have

pub rooms-some : (rooms : Rooms) (room : Option (ℕ → ℕ)) → HaveRoom (Some rooms) room
    → AreRooms rooms (rooms_of room)
rooms-some rooms None have = absurd have
rooms-some rooms (Some room) have = have

-- what is told of one page
pub told-other : (node from : ℕ) → from ≢ node → from < 256 → TellsOf (record {
  moved = 1;
  left = 0;
  from = set (replicate 256 0) from 1;
  to = replicate 256 node;
}) (told_of node (Stated from))
told-other node from other small = rw (ne_eqb from node other) (record {
  moved = refl;
  left = refl;
  from = λ n lt. one-gone (replicate 256 0) from n
      (omega (arith, length-replicate {A = ℕ} 256 0, small))
      (get_or-replicate {A = ℕ} 256 n 0 0 lt);
  to = λ n lt. get_or-replicate {A = ℕ} 256 n node 0 lt;
})
