-- How many pages pass a test, once the pages of a span are changed.
use Rattle.std.proofs.Common.{◌≡◌, ℕ, ◌+◌, ◌-◌, ◌<◌, ◌≤◌, Bool, Option}
use Rattle.std.proofs.Common.{refl, ap, arith}
use Rattle.numa_ranges.specs.Counts.{count_pages}
use Rattle.numa_ranges.proofs.Apart.{in_pages-above, in_pages-below, in_pages-true}
use Rattle.numa_ranges.proofs.Counted.{count-split}
use Rattle.numa_placed.proofs.Shared.{count-same}
use Rattle.numa_placed.proofs.Summed.{count-run}
use Rattle.numa_huge.specs.Huge.{most_pages, pages_in, pages_of, with_span}
use Rattle.numa_huge.specs.Shared.{pages_if}
use Rattle.numa_huge.specs.declared.spot.HugeSpot.{HugeSpot}

-- two tests that agree outside a span
pub count-outside : (f g : ℕ → Bool) (first n all : ℕ) → first + n ≤ all
    → ((p : ℕ) → p < first → f p ≡ g p) → ((p : ℕ) → first + n ≤ p → f p ≡ g p)
    → count_pages g 0 all + count_pages f first n ≡ count_pages f 0 all + count_pages g first n
count-outside f g first n all within below above =
    let rest : ℕ = all - (first + n) in
    let f1 = count-split f 0 first (n + rest) all (omega (arith, within)) in
    let f2 = count-split f first n rest (n + rest) refl in
    let g1 = count-split g 0 first (n + rest) all (omega (arith, within)) in
    let g2 = count-split g first n rest (n + rest) refl in
    let at_f : count_pages f (0 + first) (n + rest) ≡ count_pages f first (n + rest) =
    ap (λ (k : ℕ). count_pages f k (n + rest)) (omega arith) in
    let at_g : count_pages g (0 + first) (n + rest) ≡ count_pages g first (n + rest) =
    ap (λ (k : ℕ). count_pages g k (n + rest)) (omega arith) in
    let low = count-same f g 0 first (λ p a b. below p (omega (arith, b))) in
    let high = count-same f g (first + n) rest (λ p a b. above p a) in
    omega (arith, f1, f2, g1, g2, at_f, at_g, low, high)

module _ (test : Option HugeSpot → Bool) (first n : ℕ) (spot : Option HugeSpot)
    (spots : ℕ → Option HugeSpot) where
  -- the pages of a span, all alike
  span-alike : pages_in test (with_span first n spot spots) first n ≡ pages_if (test spot) n
  span-alike = count-run (λ page. test (with_span first n spot spots page)) (test spot) first n
      (λ page low high. rw (in_pages-true first n page low high) refl)

  pub count-span : first + n ≤ most_pages
      → pages_of test (with_span first n spot spots) + pages_in test spots first n
      ≡ pages_of test spots + pages_if (test spot) n
  count-span within =
      let outside = count-outside (λ page. test (spots page))
      (λ page. test (with_span first n spot spots page)) first n most_pages within
      (λ p l. rw (in_pages-below first n p l) refl)
      (λ p l. rw (in_pages-above first n p l) refl) in
      omega (arith, outside, span-alike)

-- a page alone
pub count-page : (test : Option HugeSpot → Bool) (page : ℕ) (spot : Option HugeSpot)
    (spots : ℕ → Option HugeSpot) → page < most_pages
    → pages_of test (with_span page 1 spot spots) + pages_if (test (spots page)) 1
    ≡ pages_of test spots + pages_if (test spot) 1
count-page test page spot spots within =
    let here : pages_in test spots page 1 ≡ pages_if (test (spots page)) 1 =
    count-run (λ p. test (spots p)) (test (spots page)) page 1
    (λ p low high. ap (λ (k : ℕ). test (spots k)) (omega (arith, low, high))) in
    omega (arith, count-span test page 1 spot spots (omega (arith, within)), here)
