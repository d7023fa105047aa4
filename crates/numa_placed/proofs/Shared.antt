-- Pages of two spans, and how many of them pass a test.
use Rattle.std.proofs.Common.{◌≡◌, ℕ, zero, suc, ◌+◌, ◌-◌, ◌<◌, ◌≤◌, ◌&&◌, Bool, true, false}
use Rattle.std.proofs.Common.{refl, ap, ◌∙◌, arith, inl, inr}
use Rattle.std.specs.Prelude.{if◌then◌else◌}
use Rattle.std.proofs.lemmas.Bool.{cases_Bool, cases_lt, and_left}
use Rattle.numa_ranges.specs.Counts.{count_pages}
use Rattle.numa_ranges.specs.Runs.{in_pages}
use Rattle.numa_ranges.proofs.Apart.{in_pages-true, in_pages-below, in_pages-above}
use Rattle.numa_ranges.proofs.Counted.{count-none, count-split}
use Rattle.numa_placed.specs.Spots.{pages_if}

-- ---- counts

pub count-same : (f g : ℕ → Bool) (a n : ℕ) → ((p : ℕ) → a ≤ p → p < a + n → f p ≡ g p)
    → count_pages f a n ≡ count_pages g a n
unfolding count_pages
count-same f g a zero h = refl
count-same f g a (suc n) h =
    let here : f a ≡ g a = h a (omega arith) (omega arith) in
    let rest : count_pages f (a + 1) n ≡ count_pages g (a + 1) n =
    count-same f g (a + 1) n (λ p low high. h p (omega arith) (omega arith)) in
    λ i. (if here i then 1 else 0) + rest i

pub count-le : (test : ℕ → Bool) (a n : ℕ) → count_pages test a n ≤ n
unfolding count_pages
count-le test a zero = omega arith
count-le test a (suc n) =
    let rest = count-le test (a + 1) n in
    elim (cases_Bool (test a)) [
      | inl t ↦ rw t (omega (arith, rest))
      | inr e ↦ rw e (omega (arith, rest))
    ]

pub one-page : (test : ℕ → Bool) (a : ℕ) → count_pages test a 1 ≡ pages_if (test a) 1
unfolding count_pages
one-page test a = elim (cases_Bool (test a)) [ inl t ↦ rw t refl | inr e ↦ rw e refl ]

-- one page more
pub count-more : (test : ℕ → Bool) (a n page : ℕ) → a + n ≡ page
    → count_pages test a (n + 1) ≡ count_pages test a n + pages_if (test page) 1
count-more test a n page is =
    count-split test a n 1 (n + 1) refl
    ∙ ap (λ (k : ℕ). count_pages test a n + k) (one-page test (a + n)
    ∙ ap (λ (p : ℕ). pages_if (test p) 1) is)

-- where no page of some passes, none of them does
pub zero-none : (test : ℕ → Bool) (a n page : ℕ) → count_pages test a n ≡ 0 → a ≤ page
    → page < a + n → test page ≡ false
zero-none test a n page none low high =
    let front = page - a in
    let rest = n - front in
    let cut1 = count-split test a front rest n (omega (arith, low, high)) in
    let seam : a + front ≡ page = omega (arith, low) in
    let moved : count_pages test (a + front) rest ≡ count_pages test page rest =
    ap (λ (p : ℕ). count_pages test p rest) seam in
    let cut2 = count-split test page 1 (rest - 1) rest (omega (arith, low, high)) in
    elim (cases_Bool (test page)) [
      | inl t ↦
          let one : count_pages test page 1 ≡ 1 = one-page test page
          ∙ ap (λ (b : Bool). pages_if b 1) t in
          absurd (omega (arith, none, cut1, moved, cut2, one))
      | inr e ↦ e
    ]

-- the pages that a run and a span share
pub record IsShared (first pages a n from to : ℕ) : Type 0 where
  pub low : first ≤ from
  pub low_run : a ≤ from
  pub least : (page : ℕ) → first ≤ page → a ≤ page → from ≤ page
  pub high : to ≤ first + pages
  pub high_run : to ≤ a + n
  pub most : (page : ℕ) → page < first + pages → page < a + n → page < to

module _ (first pages a n from to : ℕ) (shared : IsShared first pages a n from to) where
  pub in-span : (page : ℕ) → from ≤ page → page < to → in_pages first pages page ≡ true
  in-span page low high =
      let l = shared.low in let h = shared.high in
      in_pages-true first pages page (omega arith) (omega arith)

  pub out-below : (page : ℕ) → page < from → a ≤ page → in_pages first pages page ≡ false
  out-below page low high =
      elim (cases_lt page first) [
        | inl l ↦ in_pages-below first pages page l
        | inr l ↦ absurd (omega (arith, shared.least page l high))
      ]

  pub out-above : (page : ℕ) → to ≤ page → page < a + n → in_pages first pages page ≡ false
  out-above page low high =
      elim (cases_lt page (first + pages)) [
        | inl l ↦ absurd (omega (arith, shared.most page l high))
        | inr l ↦ in_pages-above first pages page l
      ]

  -- pages of one that pass are counted among those that both have
  pub count-shared : (test : ℕ → Bool) → from < to
      → count_pages (λ p. in_pages first pages p && test p) a n ≡ count_pages test from (to - from)
  count-shared test rises =
      let l = shared.low in let lr = shared.low_run in
      let h = shared.high in let hr = shared.high_run in
      let here : ℕ → Bool = λ p. in_pages first pages p && test p in
      let tail = a + n - to in
      let cut1 : count_pages here a n ≡ count_pages here a (from - a)
      + count_pages here (a + (from - a)) ((to - from) + tail) =
      count-split here a (from - a) ((to - from) + tail) n (omega arith) in
      let seam1 : a + (from - a) ≡ from = omega arith in
      let moved1 : count_pages here (a + (from - a)) ((to - from) + tail)
      ≡ count_pages here from ((to - from) + tail) =
      ap (λ p. count_pages here p ((to - from) + tail)) seam1 in
      let cut2 : count_pages here from ((to - from) + tail) ≡ count_pages here from (to - from)
      + count_pages here (from + (to - from)) tail =
      count-split here from (to - from) tail ((to - from) + tail) refl in
      let part1 : count_pages here a (from - a) ≡ 0 =
      count-none here a (from - a) (λ page low high.
      and_left (in_pages first pages page) (test page) (out-below page (omega arith) low)) in
      let part2 : count_pages here from (to - from) ≡ count_pages test from (to - from) =
      count-same here test from (to - from) (λ page low high.
      rw (in_pages-true first pages page (omega arith) (omega arith)) refl) in
      let part3 : count_pages here (from + (to - from)) tail ≡ 0 =
      count-none here (from + (to - from)) tail (λ page low high.
      and_left (in_pages first pages page) (test page)
      (out-above page (omega arith) (omega arith))) in
      omega (arith, cut1, moved1, cut2, part1, part2, part3)

  pub count-unshared : (test : ℕ → Bool) → to ≤ from
      → count_pages (λ p. in_pages first pages p && test p) a n ≡ 0
  count-unshared test falls =
      count-none (λ p. in_pages first pages p && test p) a n (λ page low high.
      and_left (in_pages first pages page) (test page) (elim (cases_lt page from) [
        | inl l ↦ out-below page l low
        | inr l ↦ out-above page (omega arith) high
      ]))
