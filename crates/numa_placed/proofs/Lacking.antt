-- Pages that lie nowhere and find no room: all stay.
use Rattle.std.proofs.Common.{◌≡◌, ℕ, zero, suc, ◌+◌, ◌-◌, ◌<◌, ◌≤◌, ◌%◌, ◌&&◌}
use Rattle.std.proofs.Common.{Option, None, List, refl, sym, ap, ◌∙◌, subst, arith}
use Rattle.std.proofs.Math.Nat.{mod-lt}
use Rattle.numa_ranges.specs.Counts.{count_pages}
use Rattle.numa_ranges.proofs.Counted.{count-none}
use Rattle.numa_placed.specs.Binds.{first_with_room, goal_at, is_kept, is_sent, room_sent}
use Rattle.numa_placed.specs.Binds.{sent_spot}
use Rattle.numa_placed.specs.Periods.{Repeats, page_with}
use Rattle.numa_placed.specs.Shifts.{AreRooms, room_of}
use Rattle.numa_placed.specs.Standing.{AreFound, AreSent, Sends}
use Rattle.numa_placed.specs.declared.bind.Walk.{Walk}
use Rattle.numa_placed.specs.declared.spot.Spot.{Spot}
use Rattle.numa_placed.specs.declared.spot.Spot.TheVariants.{Nowhere}
use Rattle.numa_placed.proofs.Heads.{same-list}
use Rattle.numa_placed.proofs.Sending.{all}
use Rattle.numa_placed.proofs.Summed.{count-all}

-- where the lists repeat after a period of which no page finds room, none does
pub all-lack : (nodes : ℕ → List ℕ) (first pages count : ℕ) (room : ℕ → ℕ) → 0 < count
    → Repeats nodes first pages count → ((p : ℕ) → first ≤ p → p < first + count
    → first_with_room room (nodes p) ≡ None)
    → (p : ℕ) → first ≤ p → p < first + pages → first_with_room room (nodes p) ≡ None
all-lack nodes first pages count room some repeats lack p low high =
    let small = mod-lt (p % count + count - first % count) some in
    ap (first_with_room room) (same-list nodes first pages count p some repeats low high)
    ∙ lack (page_with count first (p % count)) (omega arith) (omega (arith, small))

module _ (nodes : ℕ → List ℕ) (page n : ℕ) (old : ℕ → Spot) (walk walk' : Walk)
    (full : (room : ℕ → ℕ) → AreRooms walk.rooms room → (p : ℕ) → page ≤ p → p < page + n
    → first_with_room room (nodes p) ≡ None) (rooms-same : walk'.rooms ≡ walk.rooms)
    (moved : walk'.told.moved ≡ walk.told.moved) (left : walk'.told.left ≡ walk.told.left + n)
  where
    module _ (rooms : ℕ → ℕ → ℕ) (are : AreRooms walk.rooms (rooms page))
        (found : AreFound all nodes Nowhere page (page + n) rooms) where
      none-at : (j : ℕ) → j < n → rooms (page + j) ≡ rooms page
          → goal_at nodes rooms (page + j) ≡ None
      none-at j lt same =
          ap (λ (r : ℕ → ℕ). first_with_room r (nodes (page + j))) same
          ∙ full (rooms page) are (page + j) (omega arith) (omega arith)

      still : (j : ℕ) → j ≤ n → rooms (page + j) ≡ rooms page
      still zero le = ap rooms (omega arith)
      still (suc j) le =
          let before = still j (omega arith) in
          let next : page + suc j ≡ page + j + 1 = omega arith in
          ap rooms next ∙ found (page + j) (omega arith) (omega arith)
          ∙ ap (λ (o : Option ℕ). room_sent (rooms (page + j)) o Nowhere)
          (none-at j (omega arith) before) ∙ before

      none-of : (p : ℕ) → page ≤ p → p < page + n → goal_at nodes rooms p ≡ None
      none-of p low high =
          let at : page + (p - page) ≡ p = omega arith in
          sym (ap (goal_at nodes rooms) at)
          ∙ none-at (p - page) (omega arith) (still (p - page) (omega arith))

      kept-counted : count_pages (λ p. all p && is_kept (goal_at nodes rooms p) Nowhere) page
          (page + n - page) ≡ n
      kept-counted =
          let size : page + n - page ≡ n = omega arith in
          rw size (count-all (λ p. all p && is_kept (goal_at nodes rooms p) Nowhere) page n
          (λ p low high. ap (λ (o : Option ℕ). is_kept o Nowhere) (none-of p low high)))

      none-counted : count_pages (λ p. all p && is_sent (goal_at nodes rooms p) Nowhere) page
          (page + n - page) ≡ 0
      none-counted =
          count-none (λ p. all p && is_sent (goal_at nodes rooms p) Nowhere) page (page + n - page)
          (λ p low high. ap (λ (o : Option ℕ). is_sent o Nowhere) (none-of p low (omega arith)))

      left-all : AreSent all (goal_at nodes rooms) Nowhere page (page + n) old old walk.told
          walk'.told × AreRooms walk'.rooms (rooms (page + n))
      left-all = (
        record {
          below = λ p lt. refl;
          sent = λ p low high t.
              sym (ap (λ (o : Option ℕ). sent_spot o (old p)) (none-of p low high));
          kept = λ p low high e. absurd (cc);
          above = λ p le. refl;
          moved = omega (arith, moved, none-counted);
          left = omega (arith, left, kept-counted);
        },
        subst (λ (r : ℕ → ℕ). AreRooms walk'.rooms r) (sym (still n (omega arith)))
            (λ node small. ap (λ r. room_of r node) rooms-same ∙ are node small),
      )

    pub sends-lacking : Sends all nodes Nowhere page (page + n) old old walk walk'
    sends-lacking rooms are found = left-all rooms are found
