use Rattle.std.proofs.Common.{◌≡◌, ℕ, true, false, Option, Some, None, [], refl, ap}
use Rattle.std.proofs.Common.{inl, inr}
use Rattle.std.specs.Prelude.{nat_le}
use Rattle.std.proofs.lemmas.Bool.{cases_Bool}
use Rattle.numa_maps.specs.Residents.{Kept}
use Rattle.numa_ranges.specs.Runs.{page_at}
use Rattle.numa_space.specs.Standing.{SpaceState}
use Rattle.numa_placed.specs.Binds.{first_with_room, goals, is_absent}
use Rattle.numa_placed.specs.Binds.{nodes_in, room_before, sent_spot, strays}
use Rattle.numa_placed.specs.Binds.{touched_in}
use Rattle.numa_placed.specs.Spots.{is_placed}
use Rattle.numa_placed.specs.declared.spot.Spot.{Spot}
use Rattle.numa_placed.specs.declared.spot.Spot.TheVariants.{Nowhere, Stated}
use Rattle.numa_placed.proofs.Paced.{goals-endless}
use Rattle.numa_placed.proofs.Sending.{not_wanted}
use Rattle.numa_placed.proofs.laws.touches_place_pages.Goals as goal

-- ---- a page that goes

placed : (goal : Option ℕ) (spot : Spot) (node : ℕ) → spot ≡ Nowhere → goal ≡ Some node
    → sent_spot goal spot ≡ Stated node
placed goal spot node nowhere to = rw (nowhere, to) refl

pub returns-clause-placed : goal.returns-clause-placed
returns-clause-placed c space kept first pages task cpu page node spots room inside nowhere none
    to =
    let asked = touched_in space kept first pages task cpu in
    let goes : strays asked page (spots page) ≡ true = rw (nowhere, inside, none) refl in
    rw goes (placed (goals asked spots room page) (spots page) node nowhere to)

-- ---- a page that stays

there : (kept : Kept) (page : ℕ) (spot : Spot) → is_placed spot ≡ true
    → is_absent kept page spot ≡ false
there kept page Nowhere is = absurd (cc)
there kept page (Stated node) is = refl

pub returns-clause-stays : goal.returns-clause-stays
returns-clause-stays c space kept first pages task cpu page spots room is =
    let asked = touched_in space kept first pages task cpu in
    rw (not_wanted asked page (spots page) (there kept page (spots page) is)) refl

-- ---- a page that isn't mapped

no-list : (space : SpaceState) (task cpu page : ℕ) → page_at space.ranges page ≡ None
    → nodes_in space task cpu page ≡ []
no-list space task cpu page none =
    elim (cases_Bool (nat_le space.machine.nodes cpu)) [
      | inl t ↦ rw (none, t) refl
      | inr e ↦ rw (none, e) refl
    ]

stays-where : (goal : Option ℕ) (spot : Spot) → goal ≡ None → sent_spot goal spot ≡ spot
stays-where goal spot none = rw none refl

pub returns-clause-mapped : goal.returns-clause-mapped
returns-clause-mapped c space kept first pages task cpu page spots room none =
    let asked = touched_in space kept first pages task cpu in
    let nobody : goals asked spots room page ≡ None =
    ap (first_with_room (room_before asked spots room page)) (no-list space task cpu page none) in
    elim (cases_Bool (strays asked page (spots page))) [
      | inl t ↦ rw t (stays-where (goals asked spots room page) (spots page) nobody)
      | inr e ↦ rw e refl
    ]

-- ---- rooms that don't fill

pub returns-clause-endless : goal.returns-clause-endless
returns-clause-endless c space kept first pages task cpu page spots =
    goals-endless (touched_in space kept first pages task cpu) spots page
