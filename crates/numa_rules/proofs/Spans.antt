-- Whether a span has a page that passes a test, looked for run by run.
use Rattle.std.proofs.Common.{◌≡◌, ℕ, ◌+◌, ◌-◌, ◌<◌, ◌≤◌, Bool, true, false, ◌&&◌, ◌||◌, Option}
use Rattle.std.proofs.Common.{Some, None, List, [], ◌∷◌, refl, sym, ap, ◌∙◌, arith, inl, inr}
use Rattle.std.proofs.Common.{nat_lt}
use Rattle.std.specs.List.{list_any}
use Rattle.std.proofs.lemmas.Bool.{cases_Bool, cases_lt, lt-ltb, ltb-true}
use Rattle.numa_mode.specs.Policy.{PolicyRecord}
use Rattle.numa_ranges.specs.Maps.{any_page}
use Rattle.numa_ranges.specs.Runs.{AreApart, end_of, page_at}
use Rattle.numa_ranges.specs.declared.run.Run.{Run}
use Rattle.numa_ranges.proofs.Apart.{in_pages-true, in_pages-below, in_pages-above, page_at-before}
use Rattle.numa_ranges.proofs.Pages.{any_page-true, any_page-false}
use Rattle.numa_space.proofs.Homes.{any_page-within}
use Rattle.numa_rules.specs.Pages.{passes, reaches}
use Rattle.numa_rules.specs.declared.span.SpanTest.{SpanTest}
use Rattle.numa_rules.specs.declared.span.SpanTest.TheVariants.{IsMapped, HasPolicy, TakesNoHome}

-- a test asks nothing of a page's index, and no page that isn't mapped passes
any-index : (test : SpanTest) (i j : ℕ) (r : Option PolicyRecord)
    → passes test (Some (i, r)) ≡ passes test (Some (j, r))
any-index IsMapped i j r = refl
any-index HasPolicy i j r = refl
any-index TakesNoHome i j None = refl
any-index TakesNoHome i j (Some r) = refl

unmapped-fails : (test : SpanTest) → passes test None ≡ false
unmapped-fails IsMapped = refl
unmapped-fails HasPolicy = refl
unmapped-fails TakesNoHome = refl

all-three : (a b c : Bool) → (a && (b && c)) ≡ true → (a ≡ true) × (b ≡ true) × (c ≡ true)
all-three true true true h = (refl, refl, refl)
all-three true true false h = cc
all-three true false c h = cc
all-three false b c h = cc

not-third : (a b c : Bool) → (a && (b && c)) ≡ false → a ≡ true → b ≡ true → c ≡ false
not-third true true c h p q = h
not-third false b c h p q = cc
not-third true false c h p q = cc

module _ (test : SpanTest) (run : Run (Option PolicyRecord))
    (runs : List (Run (Option PolicyRecord))) (first pages : ℕ) where
  -- a page of the run and of the span
  run-passes : (page : ℕ) → passes test (Some (0, run.value)) ≡ true → run.first ≤ page
      → page < run.first + run.pages → first ≤ page → page < first + pages
      → any_page (λ p. passes test (page_at (run ∷ runs) p)) first pages ≡ true
  run-passes page well from to low high =
      any_page-true (λ p. passes test (page_at (run ∷ runs) p)) first pages page low high
      (let here : passes test (page_at (run ∷ runs) page) ≡ true =
      rw (in_pages-true run.first run.pages page from to)
      (any-index test (run.index + (page - run.first)) 0 run.value ∙ well) in here)

  -- the pages of a run that doesn't reach into the span, or fails, may be passed over
  run-fails : (page : ℕ) → reaches test first (first + pages) run ≡ false
      → AreApart (end_of run) runs → first ≤ page → page < first + pages
      → passes test (page_at runs page) ≡ passes test (page_at (run ∷ runs) page)
  run-fails page fails apart low high = elim (cases_lt page run.first) [
    | inl l ↦ rw (in_pages-below run.first run.pages page l) refl
    | inr l ↦ elim (cases_lt page (run.first + run.pages)) [
      | inl m ↦
          let clear : passes test (Some (0, run.value)) ≡ false =
          not-third (nat_lt run.first (first + pages)) (nat_lt (first - run.first) run.pages) _
          fails (lt-ltb run.first (first + pages) (omega arith))
          (lt-ltb (first - run.first) run.pages (omega arith)) in
          let gone : page_at runs page ≡ None = page_at-before (end_of run) runs page apart m in
          rw (gone, in_pages-true run.first run.pages page l m) (unmapped-fails test
          ∙ sym (any-index test (run.index + (page - run.first)) 0 run.value ∙ clear))
      | inr m ↦ rw (in_pages-above run.first run.pages page m) refl
    ]
  ]

  run-reaches : 0 < pages → reaches test first (first + pages) run ≡ true
      → any_page (λ p. passes test (page_at (run ∷ runs) p)) first pages ≡ true
  run-reaches some held =
      let parts = all-three (nat_lt run.first (first + pages))
      (nat_lt (first - run.first) run.pages) (passes test (Some (0, run.value))) held in
      let starts : run.first < first + pages = ltb-true run.first (first + pages) parts.0 in
      let meets : first - run.first < run.pages =
      ltb-true (first - run.first) run.pages parts.1 in
      elim (cases_lt run.first first) [
        | inl l ↦ run-passes first parts.2 (omega arith) (omega arith) (omega arith) (omega arith)
        | inr l ↦
            run-passes run.first parts.2 (omega arith) (omega arith) (omega arith) (omega arith)
      ]

pub reaches-pages : (test : SpanTest) (runs : List (Run (Option PolicyRecord)))
    (from first pages : ℕ) → 0 < pages → AreApart from runs
    → list_any (reaches test first (first + pages)) runs
    ≡ any_page (λ page. passes test (page_at runs page)) first pages
reaches-pages test [] from first pages some apart =
    sym (any_page-false (λ page. passes test None) first pages
    (λ page low high. unmapped-fails test))
reaches-pages test (run ∷ runs) from first pages some apart =
    elim (cases_Bool (reaches test first (first + pages) run)) [
      | inl held ↦ rw held (sym (run-reaches test run runs first pages some held))
      | inr fails ↦
          let tail : list_any (reaches test first (first + pages)) runs
          ≡ any_page (λ page. passes test (page_at runs page)) first pages =
          reaches-pages test runs (end_of run) first pages some apart.3 in
          rw fails (tail ∙ any_page-within (λ page. passes test (page_at runs page))
          (λ page. passes test (page_at (run ∷ runs) page)) first pages
          (λ page low high. run-fails test run runs first pages page fails apart.3 low high))
    ]

-- one step of the search
pub reaches-one : (test : SpanTest) (first end : ℕ)
    (before rest : List (Run (Option PolicyRecord))) (run : Run (Option PolicyRecord))
    → before ≡ run ∷ rest → reaches test first end run ≡ true
    → list_any (reaches test first end) before ≡ true
reaches-one test first end before rest run steps held =
    ap (list_any (reaches test first end)) steps
    ∙ ap (λ b. b || list_any (reaches test first end) rest) held

pub reaches-next : (test : SpanTest) (first end : ℕ)
    (before rest : List (Run (Option PolicyRecord))) (run : Run (Option PolicyRecord))
    → before ≡ run ∷ rest → reaches test first end run ≡ false
    → list_any (reaches test first end) rest ≡ list_any (reaches test first end) before
reaches-next test first end before rest run steps fails =
    sym (ap (list_any (reaches test first end)) steps
    ∙ ap (λ b. b || list_any (reaches test first end) rest) fails)
