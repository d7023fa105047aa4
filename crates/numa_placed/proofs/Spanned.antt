-- Counts of all pages, by those of a span and those beside it.
use Rattle.std.proofs.Common.{◌≡◌, ℕ, ◌+◌, ◌-◌, ◌<◌, ◌≤◌, ◌^◌, ◌&&◌, ◌==◌, Bool, true, false}
use Rattle.std.proofs.Common.{List, get_or, replicate, slice_index}
use Rattle.std.proofs.Math.ListN.{set}
use Rattle.std.proofs.lemmas.List.{get_or-set_other, get_or-set_same, length-replicate}
use Rattle.std.proofs.lemmas.Simd.{get_or-replicate}
use Rattle.std.proofs.Common.{refl, sym, ap, ◌∙◌, arith, inl, inr}
use Rattle.std.specs.Prelude.{if◌then◌else◌, min, nat_lt}
use Rattle.std.proofs.lemmas.Bool.{cases_Bool, cases_eq, cases_lt, eq-eqb, le-ltb, lt-ltb, ne_eqb}
use Rattle.numa_ranges.specs.Counts.{count_pages}
use Rattle.numa_ranges.specs.Runs.{in_pages}
use Rattle.numa_ranges.proofs.Apart.{in_pages-true, in_pages-below, in_pages-above}
use Rattle.numa_ranges.proofs.Counted.{count-none, count-split}
use Rattle.numa_placed.specs.Shifts.{ArePages, AreRooms, endless, is_short, is_stated}
use Rattle.numa_placed.specs.Shifts.{room_between, rooms_between, stated_on}
use Rattle.numa_placed.specs.Spots.{changed_spots, is_on, pages_within, stated_spot}
use Rattle.numa_placed.specs.declared.rooms.Rooms.{Rooms}
use Rattle.numa_placed.specs.declared.spot.Spot.{Spot}
use Rattle.numa_placed.specs.declared.spot.Spot.TheVariants.{Nowhere}
use Rattle.numa_placed.proofs.Shared.{count-same}
use Rattle.numa_placed.proofs.Summed.{count-all}

-- so many on one node, and none on others
pub one-set : (node pages other : ℕ) → node < 256 → other < 256
    → get_or (set (replicate 256 0) node pages) other 0 ≡ (if node == other then pages else 0)
one-set node pages other small near =
    let size = length-replicate {A = ℕ} 256 0 in
    elim (cases_eq node other) [
      | inl is ↦ rw (is, eq-eqb other other refl) (get_or-set_same (replicate 256 0) other pages 0
          (omega (arith, size, near)))
      | inr apart ↦ rw (ne_eqb node other apart)
          (get_or-set_other (replicate 256 0) node other pages 0 (λ e. apart (sym e))
          ∙ get_or-replicate {A = ℕ} 256 other 0 0 near)
    ]

module _ (first n : ℕ) (within : first + n ≤ 2 ^ 35) where
  -- how many pages beside the span pass
  beside : (ℕ → Bool) → ℕ
  beside f = count_pages f 0 first + count_pages f (first + n) (2 ^ 35 - (first + n))

  split : (f : ℕ → Bool) → count_pages f 0 (2 ^ 35) ≡ beside f + count_pages f first n
  unfolding beside
  split f =
      let tail = 2 ^ 35 - (first + n) in
      let cut : count_pages f 0 (2 ^ 35) ≡ count_pages f 0 first + count_pages f (0 + first)
      (n + tail) = count-split f 0 first (n + tail) (2 ^ 35) (omega (arith, within)) in
      let seam : 0 + first ≡ first = omega arith in
      let moved : count_pages f (0 + first) (n + tail) ≡ count_pages f first (n + tail) =
      ap (λ (p : ℕ). count_pages f p (n + tail)) seam in
      let rest : count_pages f first (n + tail) ≡ count_pages f first n
      + count_pages f (first + n) tail = count-split f first n tail (n + tail) refl in
      omega (arith, cut, moved, rest)

  beside-same : (f g : ℕ → Bool)
      → ((page : ℕ) → page < first → f page ≡ g page)
      → ((page : ℕ) → first + n ≤ page → page < 2 ^ 35 → f page ≡ g page)
      → beside f ≡ beside g
  unfolding beside
  beside-same f g below above =
      let tail = 2 ^ 35 - (first + n) in
      let front = count-same f g 0 first (λ p low high. below p (omega (arith, high))) in
      let back = count-same f g (first + n) tail
      (λ p low high. above p low (omega (arith, high, within))) in
      omega (arith, front, back)

  -- as many more pass of all as of the span, where those beside it stay
  pub more-alike : (f g : ℕ → Bool)
      → ((page : ℕ) → page < first → f page ≡ g page)
      → ((page : ℕ) → first + n ≤ page → page < 2 ^ 35 → f page ≡ g page)
      → count_pages f first n - count_pages g first n
      ≡ count_pages f 0 (2 ^ 35) - count_pages g 0 (2 ^ 35)
  more-alike f g below above =
      omega (arith, split f, split g, beside-same f g below above)

  -- ---- rooms

  -- the pages of the span alone
  pub only : (ℕ → Spot) → ℕ → Spot
  only spots page = if in_pages first n page then spots page else Nowhere

  pub only-on : (spots : ℕ → Spot) (node : ℕ)
      → stated_on (only spots) node ≡ count_pages (λ page. is_stated node (spots page)) first n
  unfolding only beside
  only-on spots node =
      let f : ℕ → Bool = λ page. is_stated node (only spots page) in
      let tail = 2 ^ 35 - (first + n) in
      let front = count-none f 0 first (λ page low high.
      rw (in_pages-below first n page (omega (arith, high))) refl) in
      let back = count-none f (first + n) tail (λ page low high.
      rw (in_pages-above first n page low) refl) in
      let here = count-same f (λ page. is_stated node (spots page)) first n (λ page low high.
      rw (in_pages-true first n page low high) refl) in
      omega (arith, split f, front, back, here)

  between-so : (room o c d : ℕ) → room_between room d c ≡ room_between room (o + d) (o + c)
  between-so room o c d = elim (cases_Bool (room == endless)) [
    | inl t ↦ rw t refl
    | inr e ↦
        let same : room + d - c ≡ room + (o + d) - (o + c) = omega arith in
        rw e (ap (λ (k : ℕ). min k endless) same)
  ]

  short-so : (room o c d : ℕ) → nat_lt (room + d) c ≡ nat_lt (room + (o + d)) (o + c)
  short-so room o c d = elim (cases_lt (room + d) c) [
    | inl l ↦ lt-ltb (room + d) c l
        ∙ sym (lt-ltb (room + (o + d)) (o + c) (omega (arith, l)))
    | inr g ↦ le-ltb (room + d) c g
        ∙ sym (le-ltb (room + (o + d)) (o + c) (omega (arith, g)))
  ]

  module _ (change : Spot → Spot) (spots : ℕ → Spot) where
    abbrev later : ℕ → Spot
    later = changed_spots first n change spots

    -- those of all are those of the span, and as many beside it before as then
    aside : ℕ → ℕ
    aside node = beside (λ page. is_stated node (spots page))

    were : (node : ℕ) → stated_on spots node ≡ aside node + stated_on (only spots) node
    unfolding aside
    were node = split (λ page. is_stated node (spots page))
        ∙ ap (λ (k : ℕ). beside (λ page. is_stated node (spots page)) + k)
        (sym (only-on spots node))

    are : (node : ℕ) → stated_on later node ≡ aside node + stated_on (only later) node
    unfolding aside
    are node =
        let f : ℕ → Bool = λ page. is_stated node (later page) in
        let g : ℕ → Bool = λ page. is_stated node (spots page) in
        let same = beside-same f g
        (λ page lt. rw (in_pages-below first n page lt) refl)
        (λ page low high. rw (in_pages-above first n page low) refl) in
        omega (arith, split f, same, only-on later node)

    -- so the rooms are those by the pages of the span
    pub between-only : (room : ℕ → ℕ) (node : ℕ) → rooms_between room (only spots) (only later) node
        ≡ rooms_between room spots later node
    between-only room node =
        between-so (room node) (aside node) (stated_on (only later) node)
        (stated_on (only spots) node)
        ∙ (λ i. room_between (room node) (sym (were node) i) (sym (are node) i))

    pub short-only : (room : ℕ → ℕ) (node : ℕ) → is_short room (only spots) (only later) node
        ≡ is_short room spots later node
    short-only room node =
        short-so (room node) (aside node) (stated_on (only later) node)
        (stated_on (only spots) node)
        ∙ (λ i. nat_lt (room node + sym (were node) i) (sym (are node) i))

  -- all pages of the span lie on one node
  pub only-later : (spots : ℕ → Spot) (node other : ℕ)
      → stated_on (only (changed_spots first n (stated_spot node) spots)) other
      ≡ (if node == other then n else 0)
  only-later spots node other =
      let new : ℕ → Spot = changed_spots first n (stated_spot node) spots in
      let f : ℕ → Bool = λ page. is_stated other (new page) in
      let here : (page : ℕ) → first ≤ page → page < first + n → f page ≡ (node == other) =
      λ page low high. rw (in_pages-true first n page low high) refl in
      only-on new other ∙ elim (cases_Bool (node == other)) [
        | inl t ↦ count-all f first n (λ page low high. here page low high ∙ t) ∙ rw t refl
        | inr e ↦ count-none f first n (λ page low high. here page low high ∙ e) ∙ rw e refl
      ]

  -- ---- told by the pages of the span

  module _ (spots : ℕ → Spot) (node : ℕ) (before after : List ℕ)
      (were : (other : ℕ) → other < 256
      → slice_index before other ≡ pages_within (is_on other) spots first n)
      (come : (other : ℕ) → other < 256
      → slice_index after other ≡ (if node == other then n else 0)) where
    abbrev come-to : ℕ → Spot
    come-to = changed_spots first n (stated_spot node) spots

    counts-before : ArePages before (stated_on (only spots))
    counts-before other small = were other small ∙ sym (only-on spots other)

    counts-after : ArePages after (stated_on (only come-to))
    counts-after other small = come other small ∙ sym (only-later spots node other)

    pub short-span : (room : ℕ → ℕ) (told : Bool)
        → (ArePages before (stated_on (only spots)) → ArePages after (stated_on (only come-to))
        → told ≡ is_short room (only spots) (only come-to) node)
        → told ≡ is_short room spots come-to node
    short-span room told says =
        says counts-before counts-after ∙ short-only (stated_spot node) spots room node

    pub between-span : (room : ℕ → ℕ) (left : Rooms)
        → (ArePages before (stated_on (only spots)) → ArePages after (stated_on (only come-to))
        → AreRooms left (rooms_between room (only spots) (only come-to)))
        → AreRooms left (rooms_between room spots come-to)
    between-span room left says other small =
        says counts-before counts-after other small
        ∙ between-only (stated_spot node) spots room other
