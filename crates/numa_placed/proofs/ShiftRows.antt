-- Moves as far as there is room: what stays, and worked rows.
use Rattle.std.proofs.Common.{◌≡◌, ◌≢◌, ℕ, ◌^◌, true, Some, None, refl, inl, inr, ap}
use Rattle.std.proofs.Common.{◌∙◌, ◌+◌}
use Rattle.std.specs.Prelude.{nat_lt}
use Rattle.std.proofs.lemmas.Bool.{cases_Bool}
use Rattle.numa_mask.specs.NodeSet.{has, weight_of}
use Rattle.numa_placed.specs.Moves.{moved_node}
use Rattle.numa_placed.specs.Shifts.{shift_of, shifted, shifted_spot, source_from}
use Rattle.numa_placed.specs.Shifts.{stated_below}
use Rattle.numa_placed.specs.Spots.{is_placed, pages_where}
use Rattle.numa_placed.specs.declared.spot.Spot.{Spot}
use Rattle.numa_placed.specs.declared.spot.Spot.TheVariants.{Nowhere, Stated}
use Rattle.numa_placed.proofs.MovedNodes.{stays}
use Rattle.numa_placed.proofs.Shared.{count-same}

placed-shifted : (go gone below : ℕ → ℕ) (spot : Spot)
    → is_placed (shifted_spot go gone below spot) ≡ is_placed spot
placed-shifted go gone below Nowhere = refl
placed-shifted go gone below (Stated node) =
    elim (cases_Bool (nat_lt (below node) (gone node))) [
      | inl t ↦ rw t refl
      | inr e ↦ rw e refl
    ]

-- no page is lost
pub shifts-keep : (spots : ℕ → Spot) (old new : ℕ) (room : ℕ → ℕ)
    → pages_where is_placed (shifted spots old new room) ≡ pages_where is_placed spots
shifts-keep spots old new room =
    count-same (λ page. is_placed (shifted spots old new room page))
    (λ page. is_placed (spots page)) 0 (2 ^ 35)
    (λ page low high. placed-shifted (moved_node old new) (shift_of spots old new room).gone
    (stated_below spots page) (spots page))

pub same-target : (go gone below : ℕ → ℕ) (node : ℕ) → go node ≡ node
    → shifted_spot go gone below (Stated node) ≡ Stated node
same-target go gone below node same =
    elim (cases_Bool (nat_lt (below node) (gone node))) [
      | inl t ↦ rw t (ap Stated same)
      | inr e ↦ rw e refl
    ]

-- a page whose node stays allowed isn't touched where the sets haven't as many nodes
pub shifts-stay : (spots : ℕ → Spot) (old new : ℕ) (room : ℕ → ℕ) (page node : ℕ)
    → weight_of old ≢ weight_of new → has new node ≡ true → spots page ≡ Stated node
    → shifted spots old new room page ≡ Stated node
shifts-stay spots old new room page node other here lies =
    ap (shifted_spot (moved_node old new) (shift_of spots old new room).gone
    (stated_below spots page)) lies
    ∙ same-target (moved_node old new) (shift_of spots old new room).gone
    (stated_below spots page) node (stays old new node other here)

-- ---- worked rows

-- 0 goes to 1 and 1 to 2: node 1 goes first, since node 2 isn't still to go
moved-up : source_from (λ node. node + 1) (λ node. nat_lt node 2) None 0 256 ≡ Some 1
unfolding source_from
moved-up = refl

-- nodes 0, 1 and 2 all go to 3, which is among the nodes that pages leave: the highest goes first
crowded : source_from (λ node. 3) (λ node. nat_lt node 4) None 0 256 ≡ Some 2
unfolding source_from
crowded = refl
