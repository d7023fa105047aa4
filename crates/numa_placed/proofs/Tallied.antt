-- What a move does to all pages, counted by the nodes on which they lie.
use Rattle.std.proofs.Common.{◌≡◌, ℕ, zero, suc, ◌<◌, ◌≤◌, ◌^◌, ◌==◌, ◌&&◌, not, Bool, true, false}
use Rattle.std.proofs.Common.{◌⊎◌, refl, ap, sym, ◌∙◌, arith, inl, inr}
use Rattle.std.specs.Prelude.{nat_lt}
use Rattle.std.proofs.lemmas.Bool.{cases_Bool, cases_eq, cases_lt, eq-eqb, le-ltb, lt-ltb, ne_eqb}
use Rattle.numa_ranges.proofs.Counted.{count-agree, count-none}
use Rattle.numa_placed.specs.Moves.{goes, goes_from, moved_spot}
use Rattle.numa_placed.specs.Shifts.{is_stated, stated_on, sum_below}
use Rattle.numa_placed.specs.Spots.{pages_where}
use Rattle.numa_placed.specs.Standing.{AreOnNodes}
use Rattle.numa_placed.specs.Tallies.{leave_on}
use Rattle.numa_placed.specs.declared.spot.Spot.{Spot}
use Rattle.numa_placed.specs.declared.spot.Spot.TheVariants.{Nowhere, Stated}
use Rattle.numa_placed.proofs.Owned.{count-apart-from}
use Rattle.numa_placed.proofs.Shared.{zero-none}

pub leave-same : (go go' count count' : ℕ → ℕ) (node : ℕ) → go node ≡ go' node
    → count node ≡ count' node → leave_on go count node ≡ leave_on go' count' node
leave-same go go' count count' node same same' = rw (same, same') refl

-- no page leaves a node that is its own target
pub leave-none : (go count : ℕ → ℕ) (node : ℕ) → go node ≡ node → leave_on go count node ≡ 0
leave-none go count node same = rw (eq-eqb (go node) node same) refl

pub leave-few : (go count : ℕ → ℕ) (node : ℕ) → leave_on go count node ≤ count node
leave-few go count node = elim (cases_Bool (go node == node)) [
  | inl stays ↦ rw stays (omega arith)
  | inr leaves ↦ rw leaves (omega arith)
]

still-moved : (go : ℕ → ℕ) (spot : Spot) → goes go spot ≡ false → spot ≡ moved_spot go spot
still-moved go Nowhere stays = refl
still-moved go (Stated node) stays = elim (cases_eq (go node) node) [
  | inl same ↦ ap Stated (sym same)
  | inr other ↦
      let leaves : not (go node == node) ≡ true = ap not (ne_eqb (go node) node other) in
      absurd (cc)
]

-- where no page goes, each is where it went
pub none-moved : (go : ℕ → ℕ) (spots : ℕ → Spot) → pages_where (goes go) spots ≡ 0
    → ((page : ℕ) → 2 ^ 35 ≤ page → spots page ≡ Nowhere) → (page : ℕ)
    → spots page ≡ moved_spot go (spots page)
none-moved go spots none far page = elim (cases_lt page (2 ^ 35)) [
  | inl near ↦ still-moved go (spots page)
      (zero-none (λ p. goes go (spots p)) 0 (2 ^ 35) page none (omega arith) (omega (arith, near)))
  | inr beyond ↦ far page beyond ∙ ap (moved_spot go) (sym (far page beyond))
]

module _ (go : ℕ → ℕ) (spots : ℕ → Spot) where
  -- the pages that go from a node
  from-none : (node : ℕ) (spot : Spot) → (go node == node) ≡ true
      → goes_from go node spot ≡ false
  from-none node Nowhere stays = refl
  from-none node (Stated other) stays = elim (cases_eq other node) [
    | inl same ↦
        let here : (go other == other) ≡ true =
        ap (λ (n : ℕ). go n == n) same ∙ stays in
        rw (eq-eqb other node same, here) refl
    | inr apart ↦ rw (ne_eqb other node apart) refl
  ]

  from-all : (node : ℕ) (spot : Spot) → (go node == node) ≡ false
      → goes_from go node spot ≡ is_stated node spot
  from-all node Nowhere leaves = refl
  from-all node (Stated other) leaves = elim (cases_eq other node) [
    | inl same ↦
        let here : (go other == other) ≡ false =
        ap (λ (n : ℕ). go n == n) same ∙ leaves in
        rw (eq-eqb other node same, here) refl
    | inr apart ↦ rw (ne_eqb other node apart) refl
  ]

  pub from-counted : (node : ℕ) → pages_where (goes_from go node) spots
      ≡ leave_on go (stated_on spots) node
  from-counted node = elim (cases_Bool (go node == node)) [
    | inl stays ↦ rw stays (count-none (λ page. goes_from go node (spots page)) 0 (2 ^ 35)
        (λ page low high. from-none node (spots page) stays))
    | inr leaves ↦ rw leaves (count-agree (λ page. goes_from go node (spots page))
        (λ page. is_stated node (spots page)) 0 (2 ^ 35)
        (λ page low. from-all node (spots page) leaves))
  ]

  -- whether a page goes from a node below one
  abbrev goes_below : ℕ → Spot → Bool
  goes_below low Nowhere = false
  goes_below low (Stated node) = nat_lt node low && not (go node == node)

  none-below : (spot : Spot) → goes_below zero spot ≡ false
  none-below Nowhere = refl
  none-below (Stated node) = rw (le-ltb node 0 (omega arith)) refl

  one-more : (low : ℕ) (spot : Spot)
      → ((goes_below (suc low) spot ≡ goes_below low spot) × (goes_from go low spot ≡ false))
      ⊎ ((goes_below (suc low) spot ≡ goes_from go low spot) × (goes_below low spot ≡ false))
  one-more low Nowhere = inl (refl, refl)
  one-more low (Stated node) = elim (cases_eq node low) [
    | inl same ↦ inr (
      rw (eq-eqb node low same, lt-ltb node (suc low) (omega arith)) refl,
      rw (le-ltb node low (omega arith)) refl,
    )
    | inr apart ↦ inl (
      elim (cases_lt node low) [
        | inl l ↦ rw (lt-ltb node (suc low) (omega (arith, l)), lt-ltb node low l) refl
        | inr l ↦ rw (le-ltb node (suc low) (omega (arith, l, apart)), le-ltb node low l) refl
      ],
      rw (ne_eqb node low apart) refl,
    )
  ]

  sum-so : (low : ℕ) → pages_where (goes_below low) spots
      ≡ sum_below low (leave_on go (stated_on spots))
  unfolding sum_below
  sum-so zero = count-none (λ page. goes_below zero (spots page)) 0 (2 ^ 35)
      (λ page l h. none-below (spots page))
  sum-so (suc low) =
      let rest = sum-so low in
      let more = count-apart-from (λ page. goes_below (suc low) (spots page))
      (λ page. goes_below low (spots page)) (λ page. goes_from go low (spots page)) 0 (2 ^ 35)
      (λ page l. one-more low (spots page)) in
      omega (arith, rest, more, from-counted low)

  all-below : (spot : Spot) → ((node : ℕ) → spot ≡ Stated node → node < 256)
      → goes go spot ≡ goes_below 256 spot
  all-below Nowhere on = refl
  all-below (Stated node) on = rw (lt-ltb node 256 (on node refl)) refl

  -- all that go
  pub going-counted : AreOnNodes spots → pages_where (goes go) spots
      ≡ sum_below 256 (leave_on go (stated_on spots))
  going-counted on =
      count-agree (λ page. goes go (spots page)) (λ page. goes_below 256 (spots page)) 0 (2 ^ 35)
      (λ page low. all-below (spots page) (on page)) ∙ sum-so 256
