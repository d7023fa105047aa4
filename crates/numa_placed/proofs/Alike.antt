-- Pages that lie nowhere and have one list, and go together.
use Rattle.std.proofs.Common.{◌≡◌, ◌≢◌, ℕ, zero, suc, ◌+◌, ◌-◌, ◌<◌, ◌≤◌, ◌==◌, ◌&&◌, Bool}
use Rattle.std.proofs.Common.{true, false, Option, Some, None, List, [], ◌∷◌, refl, sym, ap, ◌∙◌}
use Rattle.std.proofs.Common.{subst, arith, inl, inr, length}
use Rattle.std.specs.Prelude.{filter, if◌then◌else◌, unwrap_or}
use Rattle.std.proofs.lemmas.Bool.{cases_Bool, cases_eq, eq-eqb, ne_eqb}
use Rattle.numa_maps.specs.Residents.{Kept, placed_at}
use Rattle.numa_ranges.specs.Counts.{count_pages}
use Rattle.numa_ranges.specs.Runs.{in_pages}
use Rattle.numa_ranges.proofs.Apart.{in_pages-true, in_pages-below, in_pages-above}
use Rattle.numa_ranges.proofs.Counted.{count-none}
use Rattle.numa_placed.specs.Binds.{first_with_room, goal_at, is_kept, is_sent}
use Rattle.numa_placed.specs.Binds.{room_sent, sent_spot}
use Rattle.numa_placed.specs.Shifts.{AreRooms, endless, less_room, room_of}
use Rattle.numa_placed.specs.Spots.{changed_spots, stated_spot}
use Rattle.numa_placed.specs.Standing.{AreFound, AreSent, Sends}
use Rattle.numa_placed.specs.declared.bind.Walk.{Walk}
use Rattle.numa_placed.specs.declared.spot.Spot.{Spot}
use Rattle.numa_placed.specs.declared.spot.Spot.TheVariants.{Nowhere}
use Rattle.numa_placed.proofs.Parts.{at-other}
use Rattle.numa_placed.proofs.Sending.{all}
use Rattle.numa_placed.proofs.Summed.{count-all}

-- ---- frames

pub none-kept : (kept : Kept) (first pages page : ℕ)
    → length (filter (λ at. in_pages first pages at.0) kept) ≡ 0
    → in_pages first pages page ≡ true → placed_at kept page ≡ None
none-kept [] first pages page none inside = refl
none-kept (at ∷ rest) first pages page none inside =
    elim (cases_Bool (in_pages first pages at.0)) [
      | inl t ↦
          let here : length (filter (λ at. in_pages first pages at.0) (at ∷ rest))
          ≡ length (at ∷ filter (λ at. in_pages first pages at.0) rest) = rw t refl in
          absurd (omega (arith, here, none))
      | inr e ↦
          let skipped : length (filter (λ at. in_pages first pages at.0) (at ∷ rest))
          ≡ length (filter (λ at. in_pages first pages at.0) rest) = rw e refl in
          let other : page ≢ at.0 = λ is.
          let f : in_pages first pages page ≡ false =
          ap (in_pages first pages) is ∙ e in cc in
          rw (at-other page at.0 other)
          (none-kept rest first pages page (sym skipped ∙ none) inside)
    ]

-- ---- rooms

-- the rooms once so many pages came to a node
taken : (ℕ → ℕ) → ℕ → ℕ → ℕ → ℕ
taken room node pages other =
    if other == node then less_room (room other) pages else room other

pub less-none : (room : ℕ) → less_room room 0 ≡ room
less-none room = elim (cases_Bool (room == endless)) [
  | inl t ↦ rw t refl
  | inr e ↦ rw e (omega arith)
]

-- one more
pub less-next : (room pages : ℕ) → room ≤ endless → pages < room
    → less_room (less_room room pages) 1 ≡ less_room room (pages + 1)
less-next room pages most fits = elim (cases_eq room endless) [
  | inl is ↦
      let t = eq-eqb room endless is in
      let once : less_room room pages ≡ room = rw t refl in
      let one : less_room room 1 ≡ room = rw t refl in
      let more : less_room room (pages + 1) ≡ room = rw t refl in
      ap (λ (r : ℕ). less_room r 1) once ∙ one ∙ sym more
  | inr other ↦
      let e = ne_eqb room endless other in
      let f : (room - pages == endless) ≡ false =
      ne_eqb (room - pages) endless (λ is. other (omega (arith, is))) in
      let once : less_room room pages ≡ room - pages = rw e refl in
      let one : less_room (room - pages) 1 ≡ room - pages - 1 = rw f refl in
      let more : less_room room (pages + 1) ≡ room - (pages + 1) = rw e refl in
      ap (λ (r : ℕ). less_room r 1) once ∙ one ∙ omega arith ∙ sym more
]

pub less-some : (room pages : ℕ) → pages < room → (less_room room pages == 0) ≡ false
less-some room pages fits = elim (cases_Bool (room == endless)) [
  | inl t ↦ rw t (ne_eqb room 0 (λ is. omega arith))
  | inr e ↦ rw e (ne_eqb (room - pages) 0 (λ is. omega arith))
]

module _ (room : ℕ → ℕ) (node : ℕ) where
  taken-none : taken room node 0 ≡ room
  unfolding taken
  taken-none = λ i other. by-node other i
    where
      by-node : (other : ℕ) → taken room node 0 other ≡ room other
      by-node other = elim (cases_Bool (other == node)) [
        | inl t ↦ rw t (less-none (room other))
        | inr e ↦ rw e refl
      ]

  -- one page more comes to it
  taken-next : (pages : ℕ) → room node ≤ endless → pages < room node
      → room_sent (taken room node pages) (Some node) Nowhere ≡ taken room node (pages + 1)
  unfolding taken
  taken-next pages most fits = λ i other. by-node other i
    where
      by-node : (other : ℕ) → room_sent (taken room node pages) (Some node) Nowhere other
          ≡ taken room node (pages + 1) other
      by-node other = elim (cases_eq other node) [
        | inl is ↦ rw (eq-eqb other node is) (less-next (room other) pages
            (subst (λ (n : ℕ). room n ≤ endless) (sym is) most)
            (subst (λ (n : ℕ). pages < room n) (sym is) fits))
        | inr apart ↦ rw (ne_eqb other node apart) refl
      ]

  -- the node is still the first that has room
  still-first : (pages : ℕ) → pages < room node → (nodes : List ℕ)
      → first_with_room room nodes ≡ Some node
      → first_with_room (taken room node pages) nodes ≡ Some node
  unfolding taken
  still-first pages fits [] first = absurd (cc)
  still-first pages fits (n ∷ nodes) first = elim (cases_Bool (room n == 0)) [
    | inl t ↦
        let here : first_with_room room (n ∷ nodes) ≡ first_with_room room nodes = rw t refl in
        let some : (room node == 0) ≡ false = ne_eqb (room node) 0 (λ is. omega arith) in
        let other : n ≢ node = λ is.
        let same : (room n == 0) ≡ (room node == 0) = ap (λ (k : ℕ). room k == 0) is in cc in
        rw (ne_eqb n node other, t) (still-first pages fits nodes (sym here ∙ first))
    | inr e ↦
        let here : first_with_room room (n ∷ nodes) ≡ Some n = rw e refl in
        let found : Some n ≡ Some node = sym here ∙ first in
        let is : n ≡ node = ap (λ (o : Option ℕ). unwrap_or o 0) found in
        let some : (less_room (room n) pages == 0) ≡ false =
        less-some (room n) pages (subst (λ (k : ℕ). pages < room k) (sym is) fits) in
        rw (eq-eqb n node is, some) found
  ]

-- ---- page by page

module _ (nodes : ℕ → List ℕ) (page n : ℕ)
    (alike : (p : ℕ) → page ≤ p → p < page + n → nodes p ≡ nodes page) where
  module _ (goal : Option ℕ) (rooms : ℕ → ℕ → ℕ) (so : (p : ℕ) → page ≤ p → p < page + n
      → goal_at nodes rooms p ≡ goal) where
    counted : (test : Option ℕ → Spot → Bool) → test goal Nowhere ≡ true → count_pages
        (λ p. all p && test (goal_at nodes rooms p) Nowhere) page (page + n - page) ≡ n
    counted test t =
        let size : page + n - page ≡ n = omega arith in
        rw size (count-all (λ p. all p && test (goal_at nodes rooms p) Nowhere) page n
        (λ p low high. ap (λ (o : Option ℕ). test o Nowhere) (so p low high) ∙ t))

    uncounted : (test : Option ℕ → Spot → Bool) → test goal Nowhere ≡ false → count_pages
        (λ p. all p && test (goal_at nodes rooms p) Nowhere) page (page + n - page) ≡ 0
    uncounted test e =
        count-none (λ p. all p && test (goal_at nodes rooms p) Nowhere) page (page + n - page)
        (λ p low high. ap (λ (o : Option ℕ). test o Nowhere) (so p low (omega arith)) ∙ e)

  -- ---- a node has room for all

  module _ (node : ℕ) (small : node < 256) (old later : ℕ → Spot) (walk walk' : Walk)
      (first : (room : ℕ → ℕ) → AreRooms walk.rooms room
      → first_with_room room (nodes page) ≡ Some node)
      (fits : n ≤ room_of walk.rooms node) (most : room_of walk.rooms node ≤ endless)
      (told : (p : ℕ) → later p ≡ changed_spots page n (stated_spot node) old p)
      (behind : (room : ℕ → ℕ) → AreRooms walk.rooms room → AreRooms walk'.rooms
      (λ other. if other == node then less_room (room other) n else room other))
      (moved : walk'.told.moved ≡ walk.told.moved + n) (left : walk'.told.left ≡ walk.told.left)
    where
      module _ (rooms : ℕ → ℕ → ℕ) (are : AreRooms walk.rooms (rooms page))
          (found : AreFound all nodes Nowhere page (page + n) rooms) where
        fits' : n ≤ rooms page node
        fits' = omega (arith, fits, are node small)

        most' : rooms page node ≤ endless
        most' = omega (arith, most, are node small)

        some-at : (j : ℕ) → j < n → rooms (page + j) ≡ taken (rooms page) node j
            → goal_at nodes rooms (page + j) ≡ Some node
        some-at j lt same =
            (λ i. first_with_room (same i) (alike (page + j) (omega arith) (omega arith) i))
            ∙ still-first (rooms page) node j (omega (arith, fits')) (nodes page)
            (first (rooms page) are)

        fewer : (j : ℕ) → j ≤ n → rooms (page + j) ≡ taken (rooms page) node j
        fewer zero le = ap rooms (omega arith) ∙ sym (taken-none (rooms page) node)
        fewer (suc j) le =
            let before = fewer j (omega arith) in
            let next : page + suc j ≡ page + j + 1 = omega arith in
            let one : j + 1 ≡ suc j = omega arith in
            ap rooms next ∙ found (page + j) (omega arith) (omega arith)
            ∙ (λ i. room_sent (before i) (some-at j (omega arith) before i) Nowhere)
            ∙ taken-next (rooms page) node j most' (omega (arith, fits'))
            ∙ ap (taken (rooms page) node) one

        some-of : (p : ℕ) → page ≤ p → p < page + n → goal_at nodes rooms p ≡ Some node
        some-of p low high =
            let at : page + (p - page) ≡ p = omega arith in
            sym (ap (goal_at nodes rooms) at)
            ∙ some-at (p - page) (omega arith) (fewer (p - page) (omega arith))

        sent-all : AreSent all (goal_at nodes rooms) Nowhere page (page + n) old later walk.told
            walk'.told × AreRooms walk'.rooms (rooms (page + n))
        unfolding taken
        sent-all = (
          record {
            below = λ p lt. told p ∙ rw (in_pages-below page n p lt) refl;
            sent = λ p low high t. told p ∙ rw (in_pages-true page n p low high) refl
                ∙ sym (ap (λ (o : Option ℕ). sent_spot o (old p)) (some-of p low high));
            kept = λ p low high e. absurd (cc);
            above = λ p le. told p ∙ rw (in_pages-above page n p le) refl;
            moved = omega (arith, moved, counted (Some node) rooms some-of is_sent refl);
            left = omega (arith, left, uncounted (Some node) rooms some-of is_kept refl);
          },
          subst (λ (r : ℕ → ℕ). AreRooms walk'.rooms r) (sym (fewer n (omega arith)))
              (behind (rooms page) are),
        )

      pub sends-to : Sends all nodes Nowhere page (page + n) old later walk walk'
      sends-to rooms are found = sent-all rooms are found
