-- Rooms that pages leave which are gone.
use Rattle.std.proofs.Common.{◌≡◌, ◌∙◌, ℕ, List, Option, Some, refl, sym, subst}
use Rattle.std.specs.Prelude.{◌^◌, replicate}
use Rattle.std.proofs.lemmas.Simd.{get_or-replicate}
use Rattle.numa_placed.specs.Shifts.{ArePages, AreRooms, is_stated, rooms_between, stated_on}
use Rattle.numa_placed.specs.Spots.{spot_at}
use Rattle.numa_placed.specs.declared.rooms.Rooms.{Rooms}
use Rattle.numa_placed.specs.declared.spot.Spot.{Spot}
use Rattle.numa_placed.specs.declared.spot.Spot.TheVariants.{Nowhere}
use Rattle.numa_ranges.proofs.Counted.{count-none}
use Rattle.numa_page_state.specs.Lying.{Lying, with_spots}
use Rattle.numa_page_state.specs.Standing.{HaveRoom, LiesAs}
use Rattle.numa_page_state.specs.declared.state.PageState.{PageState}
use Rattle.numa_page_state.proofs.Moving.{room-some}

none-stated : (node : ℕ) → stated_on (λ page. Nowhere) node ≡ 0
none-stated node = count-none (λ page. is_stated node Nowhere) 0 (2 ^ 35) (λ p low high. refl)

no-pages : ArePages (replicate 256 0) (stated_on (λ page. Nowhere))
no-pages node small = get_or-replicate {A = ℕ} 256 node 0 0 small ∙ sym (none-stated node)

pub emptied : (state : PageState) (rooms left : Rooms) (lay : List ℕ) (lying : Lying)
    → state.rooms ≡ Some rooms → LiesAs state lying
    → ArePages lay (stated_on (spot_at state.placed))
    → ((room : ℕ → ℕ) (old new : ℕ → Spot) → AreRooms rooms room → ArePages lay (stated_on old)
    → ArePages (replicate 256 0) (stated_on new) → AreRooms left (rooms_between room old new))
    → HaveRoom (Some left) (with_spots (λ page. Nowhere) lying).room
emptied state rooms left lay lying some lies was between =
    let have : HaveRoom (Some rooms) lying.room = rw (← some) lies.room in
    let has = room-some rooms lying.room have in
    let first : spot_at state.placed ≡ lying.spots = λ i page. lies.spots page i in
    subst (λ (r : Option (ℕ → ℕ)). HaveRoom (Some left)
    (with_spots (λ page. Nowhere) (record lying { room = r })).room) (sym has.1)
    (between has.0 lying.spots (λ page. Nowhere) has.2
    (subst (λ (s : ℕ → Spot). ArePages lay (stated_on s)) first was) no-pages)
