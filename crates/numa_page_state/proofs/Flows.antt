-- How many pages went from a node to another, counted as they lay alike.
use Rattle.std.proofs.Common.{◌≡◌, ℕ, ◌+◌, ◌-◌, ◌<◌, ◌≤◌, ◌^◌, ◌&&◌, Bool, true, false, refl, ap}
use Rattle.std.proofs.Common.{◌∙◌, arith, inl, inr}
use Rattle.std.specs.Prelude.{◌==◌}
use Rattle.std.proofs.lemmas.Bool.{cases_Bool, eqb-true}
use Rattle.numa_ranges.specs.Counts.{count_pages}
use Rattle.numa_ranges.proofs.Counted.{count-none, count-split}
use Rattle.numa_placed.specs.Spots.{is_on, pages_if, pages_where, pages_within}
use Rattle.numa_placed.specs.declared.spot.Spot.{Spot}
use Rattle.numa_placed.specs.declared.spot.Spot.TheVariants.{Nowhere, Stated}
use Rattle.numa_placed.proofs.Shared.{count-same, zero-none}
use Rattle.numa_page_state.specs.Sending.{flow_between, has_gone}

-- a page lies on one node at most
one-node : (from to : ℕ) (spot : Spot) → (from == to) ≡ false
    → (is_on from spot && is_on to spot) ≡ false
one-node from to Nowhere apart = refl
one-node from to (Stated node) apart = elim (cases_Bool (node == from)) [
  | inl t ↦ rw t (ap (λ (n : ℕ). n == to) (eqb-true node from t) ∙ apart)
  | inr e ↦ rw e refl
]

module _ (before after : ℕ → Spot) (from to : ℕ) where
  passes-all : (passes : Bool) (first n : ℕ)
      → count_pages (λ page. passes && is_on to (after page)) first n
      ≡ pages_if passes (pages_within (is_on to) after first n)
  passes-all true first n = refl
  passes-all false first n = count-none (λ page. false) first n (λ page low high. refl)

  -- of pages that lay alike those went that lie there now, if they lay on the node
  pub stay-went : (spot : Spot) (first n : ℕ)
      → ((page : ℕ) → first ≤ page → page < first + n → before page ≡ spot)
      → count_pages (has_gone before after from to) first n
      ≡ pages_if (is_on from spot) (pages_within (is_on to) after first n)
  stay-went spot first n alike =
      count-same (has_gone before after from to)
      (λ page. is_on from spot && is_on to (after page)) first n
      (λ page low high. ap (λ (s : Spot). is_on from s && is_on to (after page))
      (alike page low high))
      ∙ passes-all (is_on from spot) first n

  -- of pages that lie as they lay none went
  pub none-went : (first n : ℕ) → (from == to) ≡ false
      → ((page : ℕ) → first ≤ page → page < first + n → before page ≡ after page)
      → count_pages (has_gone before after from to) first n ≡ 0
  none-went first n apart alike =
      count-none (has_gone before after from to) first n (λ page low high.
      ap (λ (s : Spot). is_on from s && is_on to (after page)) (alike page low high)
      ∙ one-node from to (after page) apart)

  -- the pages up to one, and those behind it
  pub went-on : (page end count more : ℕ) → page ≤ end
      → count ≡ count_pages (has_gone before after from to) 0 page
      → more ≡ count + count_pages (has_gone before after from to) page (end - page)
      → more ≡ count_pages (has_gone before after from to) 0 end
  went-on page end count more rises so_far now =
      let gone = has_gone before after from to in
      let cut : count_pages gone 0 end
      ≡ count_pages gone 0 page + count_pages gone (0 + page) (end - page) =
      count-split gone 0 page (end - page) end (omega (arith, rises)) in
      let seam : 0 + page ≡ page = omega arith in
      omega (
        arith,
        so_far,
        now,
        cut,
        ap (λ (k : ℕ). count_pages gone k (end - page)) seam,
      )

  -- where none lay on the node none went
  pub none-flows : pages_where (is_on from) before ≡ 0 → flow_between before after from to ≡ 0
  none-flows none = elim (cases_Bool (from == to)) [
    | inl t ↦ rw t refl
    | inr e ↦ rw e (count-none (has_gone before after from to) 0 (2 ^ 35) (λ page low high.
        ap (λ (b : Bool). b && is_on to (after page))
        (zero-none (λ p. is_on from (before p)) 0 (2 ^ 35) page none low high)))
  ]
