-- Whether a span has a page that passes a test, looked for run by run.
use Rattle.std.proofs.Common.{◌≡◌, ℕ, zero, suc, ◌+◌, ◌-◌, ◌<◌, ◌≤◌, Bool, true, false, ◌&&◌, ◌||◌}
use Rattle.std.proofs.Common.{Option, Some, None, List, [], ◌∷◌, refl, sym, ap, ◌∙◌, arith, inl}
use Rattle.std.proofs.Common.{inr, nat_lt}
use Rattle.std.specs.List.{list_any}
use Rattle.std.proofs.Common.{subst}
use Rattle.std.proofs.lemmas.Bool.{cases_Bool, cases_lt, le-ltb, lt-ltb, ltb-true}
use Rattle.numa_mode.specs.Policy.{PolicyRecord}
use Rattle.numa_ranges.specs.Runs.{page_at, end_of, AreApart}
use Rattle.numa_ranges.specs.Maps.{any_page}
use Rattle.numa_ranges.specs.declared.run.Run.{Run}
use Rattle.numa_ranges.proofs.Pages.{any_page-true, any_page-false}
use Rattle.numa_ranges.proofs.Apart.{in_pages-true, in_pages-below, in_pages-above, page_at-before}
use Rattle.numa_space.specs.Edits.{passes, reaches}
use Rattle.numa_space.specs.declared.page_ranges.PageTest.{PageTest}
use Rattle.numa_space.specs.declared.page_ranges.PageTest.TheVariants.{IsMapped, HasPolicy}
use Rattle.numa_space.specs.declared.page_ranges.PageTest.TheVariants.{TakesNoHome}

pub any_page-within : (f g : ℕ → Bool) (first pages : ℕ)
    → ((page : ℕ) → first ≤ page → page < first + pages → f page ≡ g page)
    → any_page f first pages ≡ any_page g first pages
unfolding any_page
any_page-within f g first zero h = refl
any_page-within f g first (suc pages) h =
    let here : f first ≡ g first = h first (omega arith) (omega arith) in
    let rest : any_page f (first + 1) pages ≡ any_page g (first + 1) pages =
    any_page-within f g (first + 1) pages
    (λ page low high. h page (omega arith) (omega arith)) in
    λ i. here i || rest i

same_index : (test : PageTest) (i j : ℕ) (r : Option PolicyRecord) → passes test (Some (i, r))
    ≡ passes test (Some (j, r))
same_index IsMapped i j r = refl
same_index HasPolicy i j r = refl
same_index TakesNoHome i j None = refl
same_index TakesNoHome i j (Some r) = refl

fails-unmapped : (test : PageTest) → passes test None ≡ false
fails-unmapped IsMapped = refl
fails-unmapped HasPolicy = refl
fails-unmapped TakesNoHome = refl

split3 : (a b c : Bool) → (a && (b && c)) ≡ true → (a ≡ true) × (b ≡ true) × (c ≡ true)
split3 true true true h = (refl, refl, refl)
split3 true true false h = cc
split3 true false c h = cc
split3 false b c h = cc

join3 : (a b c : Bool) → (a && (b && c)) ≡ false → a ≡ true → b ≡ true → c ≡ false
join3 true true c h p q = h
join3 false b c h p q = cc
join3 true false c h p q = cc

found : (test : PageTest) (run : Run (Option PolicyRecord))
    (runs : List (Run (Option PolicyRecord))) (first pages page : ℕ)
    → passes test (Some (0, run.value)) ≡ true → run.first ≤ page → page < run.first + run.pages
    → first ≤ page → page < first + pages → any_page (λ p. passes test (page_at (run ∷ runs) p))
    first pages ≡ true
found test run runs first pages page bad from to low high =
    any_page-true (λ p. passes test (page_at (run ∷ runs) p)) first pages page low high
    (let here : passes test (page_at (run ∷ runs) page) ≡ true =
    rw (in_pages-true run.first run.pages page from to)
    (same_index test (run.index + (page - run.first)) 0 run.value ∙ bad) in here)

skipped : (test : PageTest) (run : Run (Option PolicyRecord))
    (runs : List (Run (Option PolicyRecord))) (first pages page : ℕ)
    → reaches test first (first + pages) run ≡ false → AreApart (end_of run) runs → first ≤ page
    → page < first + pages → passes test (page_at runs page)
    ≡ passes test (page_at (run ∷ runs) page)
skipped test run runs first pages page fails apart low high =
    elim (cases_lt page run.first) [
      | inl l ↦ rw (in_pages-below run.first run.pages page l) refl
      | inr l ↦ elim (cases_lt page (run.first + run.pages)) [
        | inl m ↦
            let clear : passes test (Some (0, run.value)) ≡ false =
            join3 (nat_lt run.first (first + pages)) (nat_lt (first - run.first) run.pages) _
            fails (lt-ltb run.first (first + pages) (omega arith))
            (lt-ltb (first - run.first) run.pages (omega arith)) in
            let gone : page_at runs page ≡ None = page_at-before (end_of run) runs page apart m in
            rw (gone, in_pages-true run.first run.pages page l m)
            (fails-unmapped test
            ∙ sym (same_index test (run.index + (page - run.first)) 0 run.value ∙ clear))
        | inr m ↦ rw (in_pages-above run.first run.pages page m) refl
      ]
    ]

pub reaches-pages : (test : PageTest) (runs : List (Run (Option PolicyRecord)))
    (from first pages : ℕ) → 0 < pages → AreApart from runs
    → list_any (reaches test first (first + pages)) runs
    ≡ any_page (λ page. passes test (page_at runs page)) first pages
reaches-pages test [] from first pages some apart =
    sym (any_page-false (λ page. passes test None) first pages
    (λ page low high. fails-unmapped test))
reaches-pages test (run ∷ runs) from first pages some apart =
    elim (cases_Bool (reaches test first (first + pages) run)) [
      | inl held ↦
          let parts = split3 (nat_lt run.first (first + pages))
          (nat_lt (first - run.first) run.pages) (passes test (Some (0, run.value))) held in
          let starts : run.first < first + pages = ltb-true run.first (first + pages) parts.0 in
          let meets : first - run.first < run.pages = ltb-true (first - run.first) run.pages
          parts.1 in
          rw held (sym (elim (cases_lt run.first first) [
            | inl l ↦ found test run runs first pages first parts.2 (omega arith) (omega arith)
                (omega arith) (omega arith)
            | inr l ↦ found test run runs first pages run.first parts.2 (omega arith) (omega arith)
                (omega arith) (omega arith)
          ]))
      | inr fails ↦
          let tail : list_any (reaches test first (first + pages)) runs
          ≡ any_page (λ page. passes test (page_at runs page)) first pages =
          reaches-pages test runs (end_of run) first pages some apart.3 in
          rw fails (tail ∙ any_page-within (λ page. passes test (page_at runs page))
          (λ page. passes test (page_at (run ∷ runs) page)) first pages
          (λ page low high. skipped test run runs first pages page fails apart.3 low high))
    ]

-- a run that refuses, at the front of what is left, and one that doesn't
pub reaches-one : (test : PageTest) (first end : ℕ) (before rest : List (Run (Option PolicyRecord)))
    (run : Run (Option PolicyRecord)) → before ≡ run ∷ rest → reaches test first end run ≡ true
    → list_any (reaches test first end) before ≡ true
reaches-one test first end before rest run steps held = ap (list_any (reaches test first end)) steps
    ∙ ap (λ b. b || list_any (reaches test first end) rest) held

pub reaches-next : (test : PageTest) (first end : ℕ)
    (before rest : List (Run (Option PolicyRecord))) (run : Run (Option PolicyRecord))
    → before ≡ run ∷ rest → reaches test first end run ≡ false
    → list_any (reaches test first end) rest ≡ list_any (reaches test first end) before
reaches-next test first end before rest run steps fails =
    sym (ap (list_any (reaches test first end)) steps
    ∙ ap (λ b. b || list_any (reaches test first end) rest) fails)

-- runs that begin behind the span do not reach into it
reaches-behind : (test : PageTest) (first end low : ℕ) (runs : List (Run (Option PolicyRecord)))
    → AreApart low runs → end ≤ low → list_any (reaches test first end) runs ≡ false
reaches-behind test first end low [] apart past = refl
reaches-behind test first end low (run ∷ runs) apart past =
    let out : nat_lt run.first end ≡ false = le-ltb run.first end (omega (arith, apart.0, past)) in
    rw out
    (reaches-behind test first end (end_of run) runs apart.3 (omega (arith, apart.0, past)))

pub reaches-past : (test : PageTest) (first end low : ℕ)
    (before rest : List (Run (Option PolicyRecord))) (run : Run (Option PolicyRecord))
    → before ≡ run ∷ rest → AreApart low before → end ≤ run.first
    → list_any (reaches test first end) before ≡ false
reaches-past test first end low before rest run steps apart past =
    let here = subst (AreApart low) steps apart in
    ap (list_any (reaches test first end)) steps
    ∙ reaches-behind test first end end (run ∷ rest) (past, here.1, here.2, here.3) (omega arith)

pub apart-next : (low : ℕ) (before rest : List (Run (Option PolicyRecord)))
    (run : Run (Option PolicyRecord)) → before ≡ run ∷ rest → AreApart low before
    → AreApart (end_of run) rest
apart-next low before rest run steps apart = (subst (AreApart low) steps apart).3
