-- The maximal runs of a map, counted page by page, are the runs that are kept.
use Rattle.std.proofs.Common.{◌≡◌, ℕ, zero, suc, ◌+◌, ◌-◌, ◌<◌, ◌≤◌, ◌^◌, ◌&&◌, not, eqb, Bool}
use Rattle.std.proofs.Common.{true, false, is_some, Option, Some, None, List, [], ◌∷◌, length, refl}
use Rattle.std.proofs.Common.{sym, ap, ◌∙◌, arith, inl, inr, zero-add, add-zero}
use Rattle.std.specs.Prelude.{if◌then◌else◌}
use Rattle.std.proofs.lemmas.Bool.{cases_lt, cases_Bool, eqb-true, eq-eqb}
use Rattle.numa_ranges.specs.Runs.{page_at, end_of, AreApart, AreMaximal, NotContinued, Continues}
use Rattle.numa_ranges.specs.Counts.{goes_on, is_start, count_pages, range_count}
use Rattle.numa_ranges.specs.declared.run.Run.{Run}
use Rattle.numa_ranges.proofs.Apart.{in_pages-true, in_pages-below, in_pages-above, page_at-before}
use Rattle.numa_ranges.proofs.Apart.{apart-top}
use Rattle.numa_ranges.proofs.Joined.{and_split}

-- pages of which none passes
pub count-none : (test : ℕ → Bool) (a n : ℕ) → ((p : ℕ) → a ≤ p → p < a + n → test p ≡ false)
    → count_pages test a n ≡ 0
unfolding count_pages
count-none test a zero h = refl
count-none test a (suc n) h =
    rw (h a (omega arith) (omega arith))
    (omega (arith, count-none test (a + 1) n (λ p low high. h p (omega arith) (omega arith))))

pub count-split : (test : ℕ → Bool) (a m n k : ℕ) → m + n ≡ k
    → count_pages test a k ≡ count_pages test a m + count_pages test (a + m) n
unfolding count_pages
count-split test a zero n k e = rw (← e) (rw zero-add (rw add-zero (sym (zero-add _))))
count-split test a (suc m) n zero e = absurd (omega arith)
count-split test a (suc m) n (suc k) e =
    let rest : count_pages test (a + 1) k ≡ count_pages test (a + 1) m + count_pages test
    (a + 1 + m) n = count-split test (a + 1) m n k (omega arith) in
    let place : a + 1 + m ≡ a + suc m = omega arith in
    let moved : count_pages test (a + 1 + m) n ≡ count_pages test (a + suc m) n =
    ap (λ b. count_pages test b n) place in
    omega (arith, rest, moved)

pub count-agree : (f g : ℕ → Bool) (a n : ℕ) → ((p : ℕ) → a ≤ p → f p ≡ g p)
    → count_pages f a n ≡ count_pages g a n
unfolding count_pages
count-agree f g a zero h = refl
count-agree f g a (suc n) h =
    let here : f a ≡ g a = h a (omega arith) in
    let rest : count_pages f (a + 1) n ≡ count_pages g (a + 1) n =
    count-agree f g (a + 1) n (λ p low. h p (omega arith)) in
    λ i. (if here i then 1 else 0) + rest i

-- a run, and n pages from it on that begin nothing after its first
pub count-one : (test : ℕ → Bool) (a n : ℕ) → 0 < n → test a ≡ true
    → ((p : ℕ) → a < p → p < a + n → test p ≡ false) → count_pages test a n ≡ 1
unfolding count_pages
count-one test a zero some here h = absurd (omega arith)
count-one test a (suc n) some here h =
    rw here
    (omega (arith, count-none test (a + 1) n (λ p low high. h p (omega arith) (omega arith))))

module _ {T : Type 0} (same : T → T → Bool) (exact : (a b : T) → same a b ≡ true → a ≡ b)
    (itself : (a : T) → same a a ≡ true) where
  -- a page inside a run begins nothing
  inside-run : (run : Run T) (runs : List (Run T)) (page : ℕ) → run.first < page → page < end_of run
      → is_start same (page_at (run ∷ runs)) page ≡ false
  inside-run run runs zero low high = absurd (omega arith)
  inside-run run runs (suc page) low high =
      let next : run.index + (suc page - run.first) ≡ run.index + (page - run.first) + 1 =
      omega arith in
      let steps : eqb (run.index + (suc page - run.first)) (run.index + (page - run.first) + 1)
      ≡ true = eq-eqb _ _ next in
      rw (
        in_pages-true run.first run.pages (suc page) (omega arith) high,
        in_pages-true run.first run.pages page (omega arith) (omega arith),
        steps,
        itself run.value,
      ) refl

  -- behind a run, its pages change nothing
  pub behind-run : (run : Run T) (runs : List (Run T)) (page : ℕ) → end_of run ≤ page
      → page_at (run ∷ runs) page ≡ page_at runs page
  behind-run run runs page past = rw (in_pages-above run.first run.pages page past) refl

  no_start : (at : ℕ → Option (ℕ × T)) (page : ℕ) → at page ≡ None → is_start same at page ≡ false
  no_start at zero h = ap is_some h
  no_start at (suc page) h = rw h refl

  pub start-behind : (run : Run T) (runs : List (Run T)) (page : ℕ) → end_of run < page
      → is_start same (page_at (run ∷ runs)) page ≡ is_start same (page_at runs) page
  start-behind run runs zero past = absurd (omega arith)
  start-behind run runs (suc page) past =
      rw (
        in_pages-above run.first run.pages (suc page) (omega arith),
        in_pages-above run.first run.pages page (omega arith),
      ) refl

  pub gap : (next : Run T) (runs : List (Run T)) (page : ℕ) → AreApart (end_of next) runs
      → page < next.first → page_at (next ∷ runs) page ≡ None
  gap next runs page apart low = rw (in_pages-below next.first next.pages page low)
      (page_at-before (end_of next) runs page apart (omega arith))

  pub head : (next : Run T) (runs : List (Run T)) (page : ℕ) → page ≡ next.first → 0 < next.pages
      → page_at (next ∷ runs) page ≡ Some (next.index, next.value)
  head next runs page is some =
      let place : next.index + (page - next.first) ≡ next.index = omega arith in
      rw (in_pages-true next.first next.pages page (omega arith) (omega arith))
      (ap (λ n. Some (n, next.value)) place)

  start-by : (at : ℕ → Option (ℕ × T)) (page : ℕ) (o : Option (ℕ × T)) (b : ℕ × T)
      → at (suc page) ≡ Some b → at page ≡ o → goes_on same o (Some b) ≡ false
      → is_start same at (suc page) ≡ true
  start-by at page o b here before stops =
      ap (λ x. is_some x && not (goes_on same (at page) x)) here
      ∙ ap (λ x. not (goes_on same x (Some b))) before ∙ ap not stops

  go_on : (run next : Run T) (page : ℕ) → suc page ≡ next.first → run.first ≤ page
      → page < end_of run → end_of run ≤ next.first
      → goes_on same (Some (run.index + (page - run.first), run.value))
      (Some (next.index, next.value)) ≡ true → Continues run next
  go_on run next page is low high le goes =
      let parts = and_split (eqb next.index (run.index + (page - run.first) + 1))
      (same run.value next.value) goes in
      let index : next.index ≡ run.index + (page - run.first) + 1 = eqb-true _ _ parts.0 in
      record { page = omega arith; index = omega arith; value = sym (exact _ _ parts.1) }

  -- the first page of the next run begins a run
  pub starts : (run next : Run T) (runs : List (Run T)) (page : ℕ) → page ≡ next.first
      → 0 < run.pages → 0 < next.pages → end_of run ≤ next.first → AreApart (end_of next) runs
      → (Continues run next → ⊥) → is_start same (page_at (run ∷ next ∷ runs)) page ≡ true
  starts run next runs zero is some some' le apart first = absurd (omega arith)
  starts run next runs (suc page) is some some' le apart first =
      let here : page_at (run ∷ next ∷ runs) (suc page) ≡ Some (next.index, next.value) =
      behind-run run (next ∷ runs) (suc page) (omega arith)
      ∙ head next runs (suc page) is some' in
      elim (cases_lt page (end_of run)) [
        | inl beside ↦
            let before : page_at (run ∷ next ∷ runs) page
            ≡ Some (run.index + (page - run.first), run.value) =
            rw (in_pages-true run.first run.pages page (omega arith) beside) refl in
            let other : goes_on same (Some (run.index + (page - run.first), run.value))
            (Some (next.index, next.value)) ≡ false =
            elim (cases_Bool
            (goes_on same (Some (run.index + (page - run.first), run.value))
            (Some (next.index, next.value)))) [
              | inl goes ↦ absurd (first (go_on run next page is (omega arith) beside le goes))
              | inr stops ↦ stops
            ] in
            start-by (page_at (run ∷ next ∷ runs)) page _ _ here before other
        | inr past ↦
            let before : page_at (run ∷ next ∷ runs) page ≡ None =
            behind-run run (next ∷ runs) page past ∙ gap next runs page apart (omega arith) in
            start-by (page_at (run ∷ next ∷ runs)) page _ _ here before refl
      ]

  -- the runs behind a run, counted from its end on
  pub count-behind : (runs : List (Run T)) (run : Run T) (n : ℕ) → 0 < run.pages
      → AreApart (end_of run) runs → NotContinued run runs → AreMaximal runs
      → end_of run + n ≡ 2 ^ 35 → count_pages (is_start same (page_at (run ∷ runs))) (end_of run) n
      ≡ length runs
  count-behind [] run n some apart first maximal top =
      count-none _ (end_of run) n
      (λ page low high. no_start (page_at (run ∷ [])) page (behind-run run [] page low))
  count-behind (next ∷ runs) run n some apart first maximal top =
      let test : ℕ → Bool = is_start same (page_at (run ∷ next ∷ runs)) in
      let room : end_of next ≤ 2 ^ 35 = apart-top (end_of next) runs apart.3 in
      let hole = next.first - end_of run in
      let tail = 2 ^ 35 - end_of next in
      let cut1 : count_pages test (end_of run) n ≡ count_pages test (end_of run) hole + count_pages
      test (end_of run + hole) (next.pages + tail) =
      count-split test (end_of run) hole (next.pages + tail) n (omega (arith, apart.0)) in
      let cut2 : count_pages test next.first (next.pages + tail) ≡ count_pages test next.first
      next.pages + count_pages test (next.first + next.pages) tail =
      count-split test next.first next.pages tail (next.pages + tail) refl in
      let part1 : count_pages test (end_of run) hole ≡ 0 =
      count-none test (end_of run) hole
      (λ page low high. no_start (page_at (run ∷ next ∷ runs)) page
      (behind-run run (next ∷ runs) page low ∙ gap next runs page apart.3 (omega arith))) in
      let part2 : count_pages test next.first next.pages ≡ 1 =
      count-one test next.first next.pages apart.1
      (starts run next runs next.first refl some apart.1 apart.0 apart.3 first)
      (λ page low high. start-behind run (next ∷ runs) page (omega (arith, apart.0))
      ∙ inside-run next runs page low high) in
      let part3 : count_pages test (end_of next) tail ≡ length runs =
      count-agree test _ (end_of next) tail
      (λ page low. start-behind run (next ∷ runs) page (omega (arith, apart.0, apart.1)))
      ∙ count-behind runs next tail apart.1 apart.3 maximal.0 maximal.1 (omega arith) in
      let seam : count_pages test (end_of run + hole) (next.pages + tail) ≡ count_pages test
      next.first (next.pages + tail) = ap (λ a. count_pages test a (next.pages + tail))
      (let e : end_of run + hole ≡ next.first = omega (arith, apart.0) in e) in
      omega (arith, cut1, cut2, part1, part2, part3, seam)

  -- the first run of all begins at its first page
  pub starts-alone : (run : Run T) (runs : List (Run T)) (page : ℕ) → page ≡ run.first
      → 0 < run.pages → AreApart (end_of run) runs → is_start same (page_at (run ∷ runs)) page
      ≡ true
  starts-alone run runs zero is some apart = ap is_some (head run runs zero is some)
  starts-alone run runs (suc page) is some apart = start-by (page_at (run ∷ runs)) page None
      (run.index, run.value) (head run runs (suc page) is some)
      (gap run runs page apart (omega arith)) refl

  -- the maximal runs, counted page by page, are the runs of the list
  pub range_count-length : (runs : List (Run T)) → AreApart 0 runs → AreMaximal runs
      → range_count same (page_at runs) ≡ length runs
  range_count-length [] apart maximal =
      count-none _ 0 (2 ^ 35) (λ page low high. no_start (page_at []) page refl)
  range_count-length (run ∷ runs) apart maximal =
      let test : ℕ → Bool = is_start same (page_at (run ∷ runs)) in
      let room : end_of run ≤ 2 ^ 35 = apart-top (end_of run) runs apart.3 in
      let tail = 2 ^ 35 - end_of run in
      let cut1 : count_pages test 0 (2 ^ 35) ≡ count_pages test 0 run.first + count_pages test
      (0 + run.first) (run.pages + tail) = count-split test 0 run.first (run.pages + tail)
      (2 ^ 35) (omega arith) in
      let cut2 : count_pages test run.first (run.pages + tail) ≡ count_pages test run.first
      run.pages + count_pages test (run.first + run.pages) tail =
      count-split test run.first run.pages tail (run.pages + tail) refl in
      let part1 : count_pages test 0 run.first ≡ 0 =
      count-none test 0 run.first
      (λ page low high. no_start (page_at (run ∷ runs)) page
      (gap run runs page apart.3 (omega arith))) in
      let part2 : count_pages test run.first run.pages ≡ 1 =
      count-one test run.first run.pages apart.1
      (starts-alone run runs run.first refl apart.1 apart.3)
      (λ page low high. inside-run run runs page low high) in
      let part3 : count_pages test (end_of run) tail ≡ length runs =
      count-behind runs run tail apart.1 apart.3 maximal.0 maximal.1 (omega arith) in
      let seam : count_pages test (0 + run.first) (run.pages + tail) ≡ count_pages test run.first
      (run.pages + tail) = ap (λ a. count_pages test a (run.pages + tail))
      (let e : 0 + run.first ≡ run.first = omega arith in e) in
      omega (arith, cut1, cut2, part1, part2, part3, seam)
