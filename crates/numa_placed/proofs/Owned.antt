-- The pages that lie on a node, counted by the runs of what is kept of them.
use Rattle.std.proofs.Common.{◌≡◌, ℕ, zero, suc, ◌+◌, ◌-◌, ◌<◌, ◌≤◌, ◌==◌, ◌&&◌, ◌^◌, Bool, false}
use Rattle.std.proofs.Common.{Option, Some, None, List, [], ◌∷◌, refl, sym, ap, ◌∙◌, subst, arith}
use Rattle.std.proofs.Common.{◌⊎◌, inl, inr, max}
use Rattle.std.specs.Prelude.{nat_le, slice_index, unwrap_or, ◌%◌}
use Rattle.std.specs.Option.{option_map}
use Rattle.std.proofs.lemmas.Bool.{cases_Bool, cases_lt, leb-false, lt-leb}
use Rattle.numa_ranges.specs.Counts.{count_pages}
use Rattle.numa_ranges.specs.Runs.{page_at, in_pages, end_of, AreApart}
use Rattle.numa_ranges.specs.declared.run.Run.{Run}
use Rattle.numa_ranges.proofs.Apart.{in_pages-true, in_pages-below, in_pages-above, page_at-before}
use Rattle.numa_ranges.proofs.Counted.{count-none}
use Rattle.numa_placed.specs.Spots.{is_off, is_on, node_of, pages_if, pages_within}
use Rattle.numa_placed.specs.Standing.{AreOnNodes}
use Rattle.numa_placed.specs.Turns.{AreNamed, HasOwn, HaveAll, IsNamed, kept_spot, part_where}
use Rattle.numa_placed.specs.Turns.{slot_at, slot_in, slot_spot, turn_node}
use Rattle.numa_placed.specs.declared.spot.Spot.{Spot}
use Rattle.numa_placed.specs.declared.spot.Spot.TheVariants.{Nowhere, Stated}
use Rattle.numa_placed.specs.declared.turn.Slot.{Slot}
use Rattle.numa_placed.specs.declared.turn.Slot.TheVariants.{Lies, InTurn}
use Rattle.numa_placed.specs.declared.turn.Turn.{Turn}
use Rattle.numa_placed.proofs.Filtered.{page_at-far}
use Rattle.numa_placed.proofs.Shared.{IsShared, count-shared, count-unshared, zero-none}
use Rattle.numa_placed.proofs.Stating.{AreLeft}
use Rattle.numa_placed.proofs.Summed.{count-run}

abbrev pub AllOwn : List ℕ → ℕ → List (Run Slot) → Type 0
AllOwn nodes first [] = Unit {0}
AllOwn nodes first (run ∷ runs) = HasOwn nodes first run × AllOwn nodes first runs

-- so says a list of its pages from `first` on
abbrev pub Says : List ℕ → ℕ → List (Run Slot) → Type 0
Says nodes first runs = (page i : ℕ) (slot : Slot) → first ≤ page
    → page_at runs page ≡ Some (i, slot)
    → (i ≡ page) × ((turn : Turn) → slot ≡ InTurn turn → IsNamed nodes turn)

module _ (nodes : List ℕ) (first : ℕ) where
  pub own-all : (from : ℕ) (runs : List (Run Slot)) → AreApart from runs → Says nodes first runs
      → AllOwn nodes first runs
  own-all from [] apart says = tt
  own-all from (run ∷ runs) apart says = (
    record {
      index = λ lt.
          let at = (told lt).0 in
          omega (arith, at);
      named = λ lt. (told lt).1;
    },
    own-all (end_of run) runs apart.3 (λ page i slot low is. says page i slot low
        (elim (cases_lt page (end_of run)) [
          | inl l ↦
              let gone : page_at runs page ≡ None =
              page_at-before (end_of run) runs page apart.3 l in
              absurd (let odd = sym gone ∙ is in cc)
          | inr g ↦ rw (in_pages-above run.first run.pages page g) is
        ])),
  )
    where
      told : first < end_of run
          → (run.index + (max first run.first - run.first) ≡ max first run.first)
          × ((turn : Turn) → run.value ≡ InTurn turn → IsNamed nodes turn)
      told lt =
          let page = max first run.first in
          let there : page_at (run ∷ runs) page
          ≡ Some (run.index + (page - run.first), run.value) =
          rw (in_pages-true run.first run.pages page (omega arith) (omega (arith, lt, apart.1)))
          refl in
          says page (run.index + (page - run.first)) run.value (omega arith) there

-- what is kept says so of all its pages
pub says-kept : (nodes : List ℕ) (first : ℕ) (runs part : List (Run Slot)) → HaveAll runs
    → AreNamed nodes runs → AreApart 0 part
    → ((page : ℕ) → first ≤ page → page_at part page ≡ page_at runs page) → Says nodes first part
says-kept nodes first runs part whole named apart same page i slot low is =
    elim (cases_lt page (2 ^ 35)) [
      | inr far ↦
          let gone = page_at-far 0 part page apart far in
          absurd (let odd = sym gone ∙ is in cc)
      | inl near ↦
          let there : page_at runs page ≡ Some (i, slot) = sym (same page low) ∙ is in
          let both : Some (page, slot_at runs page) ≡ Some (i, slot) =
          sym (whole page near) ∙ there in
          let one : page ≡ i =
          ap (λ (o : Option (ℕ × Slot)). unwrap_or (option_map (λ p. p.0) o) 0) both in
          let kept : slot_at runs page ≡ slot = ap slot_in there in
          (sym one, λ turn so. named page turn (kept ∙ so))
    ]

-- ---- counts

-- the pages that pass are those of two tests that no page passes both of
pub count-apart-from : (f g h : ℕ → Bool) (a n : ℕ) → ((page : ℕ) → a ≤ page
    → ((f page ≡ g page) × (h page ≡ false)) ⊎ ((f page ≡ h page) × (g page ≡ false)))
    → count_pages f a n ≡ count_pages g a n + count_pages h a n
unfolding count_pages
count-apart-from f g h a zero apart = refl
count-apart-from f g h a (suc n) apart =
    let rest = count-apart-from f g h (a + 1) n (λ page low. apart page (omega arith)) in
    elim (apart a (omega arith)) [
      | inl one ↦ elim (cases_Bool (g a)) [
        | inl t ↦ rw (one.0, one.1, t) (omega (arith, rest))
        | inr e ↦ rw (one.0, one.1, e) (omega (arith, rest))
      ]
      | inr one ↦ elim (cases_Bool (h a)) [
        | inl t ↦ rw (one.0, one.1, t) (omega (arith, rest))
        | inr e ↦ rw (one.0, one.1, e) (omega (arith, rest))
      ]
    ]

-- how many pages lie where a test holds, by the runs that are left
abbrev pub left_where : (Spot → Bool) → List ℕ → List (Run Slot) → ℕ → ℕ → ℕ
left_where test nodes runs first n =
    count_pages (λ page. test (kept_spot nodes (page_at runs page))) first n

module _ (test : Spot → Bool) (nowhere : test Nowhere ≡ false) (nodes : List ℕ) (first n : ℕ) where
  pub left-none : left_where test nodes [] first n ≡ 0
  left-none = count-none (λ page. test (kept_spot nodes (page_at [] page))) first n
      (λ page low high. nowhere)

  pub left-next : (run : Run Slot) (rest : List (Run Slot)) → AreApart (end_of run) rest
      → HasOwn nodes first run → left_where test nodes (run ∷ rest) first n
      ≡ part_where test nodes run first n + left_where test nodes rest first n
  left-next run rest apart own =
      count-apart-from (λ page. test (kept_spot nodes (page_at (run ∷ rest) page)))
      (λ page. in_pages run.first run.pages page && test (slot_spot nodes page run.value))
      (λ page. test (kept_spot nodes (page_at rest page))) first n split
    where
      split : (page : ℕ) → first ≤ page
          → ((test (kept_spot nodes (page_at (run ∷ rest) page))
          ≡ (in_pages run.first run.pages page && test (slot_spot nodes page run.value)))
          × (test (kept_spot nodes (page_at rest page)) ≡ false))
          ⊎ ((test (kept_spot nodes (page_at (run ∷ rest) page))
          ≡ test (kept_spot nodes (page_at rest page)))
          × ((in_pages run.first run.pages page && test (slot_spot nodes page run.value))
          ≡ false))
      split page low = elim (cases_lt page (end_of run)) [
        | inl l ↦
            let gone : page_at rest page ≡ None =
            page_at-before (end_of run) rest page apart l in
            elim (cases_lt page run.first) [
              | inl m ↦ inr (
                rw (in_pages-below run.first run.pages page m) refl,
                rw (in_pages-below run.first run.pages page m) refl,
              )
              | inr m ↦
                  let is : run.index ≡ run.first = own.index (omega (arith, low, l)) in
                  let at : run.index + (page - run.first) ≡ page = omega (arith, is, m) in
                  inl (
                    rw (in_pages-true run.first run.pages page m l, at) refl,
                    rw gone nowhere,
                  )
            ]
        | inr g ↦ inr (
          rw (in_pages-above run.first run.pages page g) refl,
          rw (in_pages-above run.first run.pages page g) refl,
        )
      ]

  -- runs behind the pages have none of them
  pub left-over : (from : ℕ) (runs : List (Run Slot)) → AreApart from runs → first + n ≤ from
      → left_where test nodes runs first n ≡ 0
  left-over from runs apart behind =
      count-none (λ page. test (kept_spot nodes (page_at runs page))) first n
      (λ page low high. rw (page_at-before from runs page apart (omega (arith, high, behind)))
      nowhere)

  -- the same, as a loop steps
  pub left-step : (before rest : List (Run Slot)) (run : Run Slot) → AreLeft before
      → AllOwn nodes first before → before ≡ run ∷ rest → left_where test nodes before first n
      ≡ part_where test nodes run first n + left_where test nodes rest first n
  left-step before rest run left own steps =
      let apart = subst (AreApart left.low) steps left.apart in
      let owned = subst (AllOwn nodes first) steps own in
      ap (λ (runs : List (Run Slot)). left_where test nodes runs first n) steps
      ∙ left-next run rest apart.3 owned.0

  pub left-behind : (before rest : List (Run Slot)) (run : Run Slot) → AreLeft before
      → before ≡ run ∷ rest → first + n ≤ run.first → left_where test nodes before first n ≡ 0
  left-behind before rest run left steps behind =
      let apart = subst (AreApart left.low) steps left.apart in
      ap (λ (runs : List (Run Slot)). left_where test nodes runs first n) steps
      ∙ left-over run.first (run ∷ rest) (omega arith, apart.1, apart.2, apart.3) behind

-- the pages that a run shares with others, of which all this is kept
pub shared-part : (test : Spot → Bool) (nodes : List ℕ) (run : Run Slot) (first n from to : ℕ)
    → IsShared run.first run.pages first n from to → from < to
    → part_where test nodes run first n
    ≡ count_pages (λ page. test (slot_spot nodes page run.value)) from (to - from)
shared-part test nodes run first n from to both rises =
    count-shared run.first run.pages first n from to both
    (λ page. test (slot_spot nodes page run.value)) rises

pub unshared-part : (test : Spot → Bool) (nodes : List ℕ) (run : Run Slot) (first n from to : ℕ)
    → IsShared run.first run.pages first n from to → to ≤ from
    → part_where test nodes run first n ≡ 0
unshared-part test nodes run first n from to both falls =
    count-unshared run.first run.pages first n from to both
    (λ page. test (slot_spot nodes page run.value)) falls

-- pages that lie here, or nowhere
pub slot-where : (test : Spot → Bool) (nodes : List ℕ) (slot : Slot) (spot : Spot) (first n : ℕ)
    → slot ≡ Lies spot
    → count_pages (λ page. test (slot_spot nodes page slot)) first n ≡ pages_if (test spot) n
slot-where test nodes slot spot first n is =
    ap (λ (s : Slot). count_pages (λ page. test (slot_spot nodes page s)) first n) is
    ∙ count-run (λ page. test spot) (test spot) first n (λ page low high. refl)

pub on-node : (spot : Spot) (node other : ℕ) → node_of spot ≡ Some node
    → is_on other spot ≡ (node == other)
on-node Nowhere node other is = absurd (cc)
on-node (Stated here) node other is =
    ap (λ (o : Option ℕ). unwrap_or o 0 == other) is

pub on-none : (spot : Spot) (other : ℕ) → node_of spot ≡ None → is_on other spot ≡ false
on-none Nowhere other is = refl
on-none (Stated here) other is = absurd (cc)

-- ---- nodes are bytes

pub off-node : (spot : Spot) (node : ℕ) → node_of spot ≡ Some node → node < 256
    → is_off spot ≡ false
off-node Nowhere node is small = absurd (cc)
off-node (Stated here) node is small =
    let same : here ≡ node = ap (λ (o : Option ℕ). unwrap_or o 0) is in
    lt-leb 256 here (omega (arith, same, small))

pub off-none : (spot : Spot) → node_of spot ≡ None → is_off spot ≡ false
off-none Nowhere is = refl
off-none (Stated here) is = absurd (cc)

pub off-turn : (nodes : List ℕ) (slot : Slot) (turn : Turn) (first n : ℕ) → slot ≡ InTurn turn
    → ((place : ℕ) → slice_index nodes place < 256)
    → count_pages (λ page. is_off (slot_spot nodes page slot)) first n ≡ 0
off-turn nodes slot turn first n is bytes =
    ap (λ (s : Slot). count_pages (λ page. is_off (slot_spot nodes page s)) first n) is
    ∙ count-none (λ page. is_off (slot_spot nodes page (InTurn turn))) first n
    (λ page low high. lt-leb 256 (turn_node nodes turn page)
    (bytes (turn.from + page % turn.count)))

-- no page of them lies on a node beyond, so each lies on one of 256, where those behind lie nowhere
pub all-on : (spots : ℕ → Spot) (n : ℕ) → pages_within is_off spots 0 n ≡ 0
    → ((page : ℕ) → n ≤ page → spots page ≡ Nowhere) → AreOnNodes spots
all-on spots n none far page node is = elim (cases_lt page n) [
  | inl near ↦
      let off : is_off (spots page) ≡ false =
      zero-none (λ p. is_off (spots p)) 0 n page none (omega arith) (omega (arith, near)) in
      let no : nat_le 256 node ≡ false = sym (ap is_off is) ∙ off in
      leb-false 256 node no
  | inr beyond ↦
      let odd : Stated node ≡ Nowhere = sym is ∙ far page beyond in
      absurd (cc)
]

-- a page from 2^35 on lies nowhere
pub nowhere-far : (nodes : List ℕ) (runs : List (Run Slot)) (page : ℕ) → AreApart 0 runs
    → 2 ^ 35 ≤ page → kept_spot nodes (page_at runs page) ≡ Nowhere
nowhere-far nodes runs page apart far = ap (kept_spot nodes) (page_at-far 0 runs page apart far)

-- a page that is stated to lie somewhere is below 2^35
pub kept-near : (nodes : List ℕ) (runs : List (Run Slot)) (page node : ℕ) → AreApart 0 runs
    → kept_spot nodes (page_at runs page) ≡ Stated node → page < 2 ^ 35
kept-near nodes runs page node apart is = elim (cases_lt page (2 ^ 35)) [
  | inl near ↦ near
  | inr far ↦
      let odd : Stated node ≡ Nowhere = sym is ∙ nowhere-far nodes runs page apart far in
      absurd (cc)
]
