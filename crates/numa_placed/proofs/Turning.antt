-- Pages that lie nowhere and go in turn, each to the first node of its own list that has room at
-- the start, where each node has room for all that come to it.
use Rattle.std.proofs.Common.{◌≡◌, ◌≢◌, ℕ, zero, suc, ◌+◌, ◌-◌, ◌<◌, ◌≤◌, ◌==◌, ◌&&◌}
use Rattle.std.proofs.Common.{true, false, Option, Some, List, [], ◌∷◌, refl, sym, ap, ◌∙◌}
use Rattle.std.proofs.Common.{subst, arith, inl, inr}
use Rattle.std.specs.Prelude.{unwrap_or}
use Rattle.std.proofs.lemmas.Bool.{cases_Bool, cases_eq, eq-eqb, eqb-true, ne_eqb}
use Rattle.numa_ranges.specs.Counts.{count_pages}
use Rattle.numa_ranges.proofs.Apart.{in_pages-true, in_pages-below, in_pages-above}
use Rattle.numa_ranges.proofs.Counted.{count-none, count-split}
use Rattle.numa_placed.specs.Binds.{first_with_room, goal_at, is_kept, is_sent}
use Rattle.numa_placed.specs.Binds.{room_sent, sent_spot}
use Rattle.numa_placed.specs.Shifts.{AreRooms, endless, less_room, room_of}
use Rattle.numa_placed.specs.Spots.{pages_if}
use Rattle.numa_placed.specs.Standing.{AreFound, AreSent, Sends}
use Rattle.numa_placed.specs.Turns.{turned_spots}
use Rattle.numa_placed.specs.declared.bind.Walk.{Walk}
use Rattle.numa_placed.specs.declared.spot.Spot.{Spot}
use Rattle.numa_placed.specs.declared.spot.Spot.TheVariants.{Nowhere}
use Rattle.numa_placed.proofs.Alike.{less-next, less-none, less-some}
use Rattle.numa_placed.proofs.Sending.{all}
use Rattle.numa_placed.proofs.Shared.{count-more}
use Rattle.numa_placed.proofs.Summed.{count-all}

-- ---- rooms

-- the first node of a list that had room still is, where it has some and no other got any
first-stays : (room less : ℕ → ℕ) (node : ℕ) → ((other : ℕ) → room other ≡ 0 → less other ≡ 0)
    → less node ≢ 0 → (nodes : List ℕ) → first_with_room room nodes ≡ Some node
    → first_with_room less nodes ≡ Some node
first-stays room less node none some [] first = absurd (cc)
first-stays room less node none some (n ∷ nodes) first = elim (cases_Bool (room n == 0)) [
  | inl t ↦
      let here : first_with_room room (n ∷ nodes) ≡ first_with_room room nodes = rw t refl in
      let gone : (less n == 0) ≡ true = eq-eqb (less n) 0 (none n (eqb-true (room n) 0 t)) in
      rw gone (first-stays room less node none some nodes (sym here ∙ first))
  | inr e ↦
      let here : first_with_room room (n ∷ nodes) ≡ Some n = rw e refl in
      let found : Some n ≡ Some node = sym here ∙ first in
      let is : n ≡ node = ap (λ (o : Option ℕ). unwrap_or o 0) found in
      let left : (less n == 0) ≡ false =
      ne_eqb (less n) 0 (λ empty. some (ap less (sym is) ∙ empty)) in
      rw left found
]

module _ (heads : ℕ → ℕ) (page : ℕ) where
  -- how many of n pages go to a node
  abbrev pub count_to : ℕ → ℕ → ℕ
  count_to node n = count_pages (λ p. heads p == node) page n

  -- the rooms once n pages went
  went : (ℕ → ℕ) → ℕ → ℕ → ℕ
  went room n node = less_room (room node) (count_to node n)

  to-next : (node j : ℕ) → count_to node (j + 1)
      ≡ count_to node j + pages_if (heads (page + j) == node) 1
  to-next node j = count-more (λ p. heads p == node) page j (page + j) refl

  to-fewer : (node j n : ℕ) → j ≤ n → count_to node j ≤ count_to node n
  to-fewer node j n le =
      omega (arith, count-split (λ p. heads p == node) page j (n - j) n (omega arith))

  module _ (room : ℕ → ℕ) where
    went-none : went room 0 ≡ room
    unfolding went count_pages
    went-none = λ i node. less-none (room node) i

    went-next : (j : ℕ) → room (heads (page + j)) ≤ endless
        → count_to (heads (page + j)) j < room (heads (page + j))
        → room_sent (went room j) (Some (heads (page + j))) Nowhere ≡ went room (j + 1)
    unfolding went
    went-next j most fits = λ i other. by-node other i
      where
        by-node : (other : ℕ) → room_sent (went room j) (Some (heads (page + j))) Nowhere other
            ≡ went room (j + 1) other
        by-node other = elim (cases_eq other (heads (page + j))) [
          | inl is ↦
              let one : count_to other (j + 1) ≡ count_to other j + 1 = to-next other j
              ∙ ap (λ b. count_to other j + pages_if b 1)
              (eq-eqb (heads (page + j)) other (sym is)) in
              let next : less_room (less_room (room other) (count_to other j)) 1
              ≡ less_room (room other) (count_to other j + 1) =
              less-next (room other) (count_to other j)
              (subst (λ (n : ℕ). room n ≤ endless) (sym is) most)
              (subst (λ (n : ℕ). count_to n j < room n) (sym is) fits) in
              rw (eq-eqb other (heads (page + j)) is) (next ∙ ap (less_room (room other)) (sym one))
          | inr apart ↦
              let same : count_to other (j + 1) ≡ count_to other j = to-next other j
              ∙ ap (λ b. count_to other j + pages_if b 1)
              (ne_eqb (heads (page + j)) other (λ e. apart (sym e))) ∙ omega arith in
              rw (ne_eqb other (heads (page + j)) apart) (ap (less_room (room other)) (sym same))
        ]

    empty-stays : (j node : ℕ) → room node ≡ 0 → went room j node ≡ 0
    unfolding went
    empty-stays j node none = ap (λ (r : ℕ). less_room r (count_to node j)) none ∙ from-none
      where
        from-none : less_room 0 (count_to node j) ≡ 0
        from-none = omega arith

    some-left : (j node : ℕ) → count_to node j < room node → went room j node ≢ 0
    unfolding went
    some-left j node fits is =
        let left = less-some (room node) (count_to node j) fits in
        let gone = eq-eqb (less_room (room node) (count_to node j)) 0 is in
        absurd (cc)

-- ---- page by page

module _ (nodes : ℕ → List ℕ) (heads : ℕ → ℕ) (page n : ℕ) (old later : ℕ → Spot)
    (walk walk' : Walk)
    (first : (room : ℕ → ℕ) → AreRooms walk.rooms room → (p : ℕ) → page ≤ p → p < page + n
    → first_with_room room (nodes p) ≡ Some (heads p))
    (small : (p : ℕ) → page ≤ p → p < page + n → heads p < 256)
    (fits : (node : ℕ) → node < 256 → count_to heads page node n ≤ room_of walk.rooms node)
    (most : (node : ℕ) → node < 256 → room_of walk.rooms node ≤ endless)
    (told : (p : ℕ) → later p ≡ turned_spots page n heads old p)
    (behind : (room : ℕ → ℕ) → AreRooms walk.rooms room
    → AreRooms walk'.rooms (λ node. less_room (room node) (count_to heads page node n)))
    (moved : walk'.told.moved ≡ walk.told.moved + n) (left : walk'.told.left ≡ walk.told.left)
  where
    module _ (rooms : ℕ → ℕ → ℕ) (are : AreRooms walk.rooms (rooms page))
        (found : AreFound all nodes Nowhere page (page + n) rooms) where
      room-for : (j : ℕ) → j < n
          → count_to heads page (heads (page + j)) j < rooms page (heads (page + j))
      room-for j lt =
          let node = heads (page + j) in
          let low = small (page + j) (omega arith) (omega arith) in
          let one : count_to heads page node (j + 1) ≡ count_to heads page node j + 1 =
          to-next heads page node j
          ∙ ap (λ b. count_to heads page node j + pages_if b 1) (eq-eqb node node refl) in
          omega (
            arith,
            one,
            to-fewer heads page node (j + 1) n (omega arith),
            fits node low,
            are node low,
          )

      some-at : (j : ℕ) → j < n → rooms (page + j) ≡ went heads page (rooms page) j
          → goal_at nodes rooms (page + j) ≡ Some (heads (page + j))
      some-at j lt same =
          ap (λ (r : ℕ → ℕ). first_with_room r (nodes (page + j))) same
          ∙ first-stays (rooms page) (went heads page (rooms page) j) (heads (page + j))
          (empty-stays heads page (rooms page) j)
          (some-left heads page (rooms page) j (heads (page + j)) (room-for j lt))
          (nodes (page + j))
          (first (rooms page) are (page + j) (omega arith) (omega arith))

      fewer : (j : ℕ) → j ≤ n → rooms (page + j) ≡ went heads page (rooms page) j
      fewer zero le = ap rooms (omega arith) ∙ sym (went-none heads page (rooms page))
      fewer (suc j) le =
          let before = fewer j (omega arith) in
          let next : page + suc j ≡ page + j + 1 = omega arith in
          let one : j + 1 ≡ suc j = omega arith in
          let low = small (page + j) (omega arith) (omega arith) in
          ap rooms next ∙ found (page + j) (omega arith) (omega arith)
          ∙ (λ i. room_sent (before i) (some-at j (omega arith) before i) Nowhere)
          ∙ went-next heads page (rooms page) j
          (omega (arith, most (heads (page + j)) low, are (heads (page + j)) low))
          (room-for j (omega arith))
          ∙ ap (went heads page (rooms page)) one

      some-of : (p : ℕ) → page ≤ p → p < page + n → goal_at nodes rooms p ≡ Some (heads p)
      some-of p low high =
          let at : page + (p - page) ≡ p = omega arith in
          sym (ap (goal_at nodes rooms) at)
          ∙ some-at (p - page) (omega arith) (fewer (p - page) (omega arith))
          ∙ ap (λ (q : ℕ). Some (heads q)) at

      sent-counted : count_pages (λ p. all p && is_sent (goal_at nodes rooms p) Nowhere) page
          (page + n - page) ≡ n
      sent-counted =
          let size : page + n - page ≡ n = omega arith in
          rw size (count-all (λ p. all p && is_sent (goal_at nodes rooms p) Nowhere) page n
          (λ p low high. ap (λ (o : Option ℕ). is_sent o Nowhere) (some-of p low high)))

      none-counted : count_pages (λ p. all p && is_kept (goal_at nodes rooms p) Nowhere) page
          (page + n - page) ≡ 0
      none-counted =
          count-none (λ p. all p && is_kept (goal_at nodes rooms p) Nowhere) page (page + n - page)
          (λ p low high. ap (λ (o : Option ℕ). is_kept o Nowhere) (some-of p low (omega arith)))

      sent-turns : AreSent all (goal_at nodes rooms) Nowhere page (page + n) old later walk.told
          walk'.told × AreRooms walk'.rooms (rooms (page + n))
      unfolding went
      sent-turns = (
        record {
          below = λ p lt. told p ∙ rw (in_pages-below page n p lt) refl;
          sent = λ p low high t. told p ∙ rw (in_pages-true page n p low high) refl
              ∙ sym (ap (λ (o : Option ℕ). sent_spot o (old p)) (some-of p low high));
          kept = λ p low high e. absurd (cc);
          above = λ p le. told p ∙ rw (in_pages-above page n p le) refl;
          moved = omega (arith, moved, sent-counted);
          left = omega (arith, left, none-counted);
        },
        subst (λ (r : ℕ → ℕ). AreRooms walk'.rooms r) (sym (fewer n (omega arith)))
            (behind (rooms page) are),
      )

    pub sends-turns : Sends all nodes Nowhere page (page + n) old later walk walk'
    sends-turns rooms are found = sent-turns rooms are found
