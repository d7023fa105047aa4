-- Runs that are apart.
use Rattle.std.proofs.Common.{◌≡◌, ℕ, zero, suc, ◌+◌, ◌-◌, ◌<◌, ◌≤◌, ◌^◌, true, false, Some, None}
use Rattle.std.proofs.Common.{List, [], ◌∷◌, length, get_or, refl, sym, ap, subst, ◌∙◌, arith}
use Rattle.std.specs.Prelude.{if◌then◌else◌}
use Rattle.std.specs.List.{AllWithin}
use Rattle.std.proofs.lemmas.Bool.{le-leb, lt-leb, lt-ltb, le-ltb}
use Rattle.std.proofs.Math.Bool.{and-false}
use Rattle.numa_ranges.specs.Runs.{page_at, in_pages, end_of, AreApart}
use Rattle.numa_ranges.specs.Edits.{StartsAround, HoldsPage}
use Rattle.numa_ranges.specs.declared.run.Run.{Run}

pub in_pages-true : (first pages page : ℕ) → first ≤ page → page < first + pages
    → in_pages first pages page ≡ true
in_pages-true first pages page low high =
    rw (le-leb first page low, lt-ltb page (first + pages) high) refl

pub in_pages-below : (first pages page : ℕ) → page < first → in_pages first pages page ≡ false
in_pages-below first pages page low = rw (lt-leb first page low) refl

pub in_pages-above : (first pages page : ℕ) → first + pages ≤ page → in_pages first pages page
    ≡ false
in_pages-above first pages page high = rw (le-ltb page (first + pages) high) (and-false _)

module _ {T : Type 0} where
  -- each run begins at `from` or later
  pub apart-from : (from : ℕ) (runs : List (Run T)) (i : ℕ) (d : Run T) → AreApart from runs
      → i < length runs → from ≤ (get_or runs i d).first
  apart-from from [] i d apart l = absurd (omega arith)
  apart-from from (run ∷ runs) zero d apart l = apart.0
  apart-from from (run ∷ runs) (suc i) d apart l =
      omega (arith, apart-from (end_of run) runs i d apart.3 (omega arith), apart.0)

  pub apart-rising : (from : ℕ) (runs : List (Run T)) → AreApart from runs → (i j : ℕ) (d : Run T)
      → i ≤ j → j < length runs → (get_or runs i d).first ≤ (get_or runs j d).first
  apart-rising from [] apart i j d le l = absurd (omega arith)
  apart-rising from (run ∷ runs) apart zero zero d le l = omega arith
  apart-rising from (run ∷ runs) apart zero (suc j) d le l =
      omega (arith, apart-from (end_of run) runs j d apart.3 (omega arith))
  apart-rising from (run ∷ runs) apart (suc i) zero d le l = absurd (omega arith)
  apart-rising from (run ∷ runs) apart (suc i) (suc j) d le l =
      apart-rising (end_of run) runs apart.3 i j d (omega arith) (omega arith)

  pub apart-top : (from : ℕ) (runs : List (Run T)) → AreApart from runs → from ≤ 2 ^ 35
  apart-top from [] apart = apart
  apart-top from (run ∷ runs) apart = omega (arith, apart-top (end_of run) runs apart.3, apart.0)

  -- the bounds of one run
  pub apart-bounds : (from : ℕ) (runs : List (Run T)) (i : ℕ) (d : Run T) → AreApart from runs
      → i < length runs → (end_of (get_or runs i d) ≤ 2 ^ 35)
      × ((get_or runs i d).index + (get_or runs i d).pages ≤ 2 ^ 48)
  apart-bounds from [] i d apart l = absurd (omega arith)
  apart-bounds from (run ∷ runs) zero d apart l = (apart-top (end_of run) runs apart.3, apart.2)
  apart-bounds from (run ∷ runs) (suc i) d apart l = apart-bounds (end_of run) runs i d apart.3
      (omega arith)

  pub apart-some : (from : ℕ) (runs : List (Run T)) (i : ℕ) (d : Run T) → AreApart from runs
      → i < length runs → 0 < (get_or runs i d).pages
  apart-some from [] i d apart l = absurd (omega arith)
  apart-some from (run ∷ runs) zero d apart l = apart.1
  apart-some from (run ∷ runs) (suc i) d apart l = apart-some (end_of run) runs i d apart.3
      (omega arith)

  -- no page before the first run is mapped
  pub page_at-before : (from : ℕ) (runs : List (Run T)) (page : ℕ) → AreApart from runs
      → page < from → page_at runs page ≡ None
  page_at-before from [] page apart low = refl
  page_at-before from (run ∷ runs) page apart low =
      rw (in_pages-below run.first run.pages page (omega (arith, apart.0)))
      (page_at-before (end_of run) runs page apart.3 (omega (arith, apart.0)))

  -- no run starts at the page or before it
  pub page_at-none : (from : ℕ) (runs : List (Run T)) (page : ℕ) → AreApart from runs
      → AllWithin (λ run. page < run.first) runs 0 (length runs) → page_at runs page ≡ None
  page_at-none from [] page apart later = refl
  page_at-none from (run ∷ runs) page apart later =
      let low : page < run.first = later 0 run (omega arith) (omega arith) in
      rw (in_pages-below run.first run.pages page low)
      (page_at-before (end_of run) runs page apart.3 (omega arith))

  -- the last run that starts at the page or before it decides
  pub page_at-last : (from : ℕ) (runs : List (Run T)) (place page : ℕ) (run : Run T)
      → AreApart from runs → place < length runs → run ≡ get_or runs place run
      → AllWithin (λ r. r.first ≤ page) runs 0 (suc place)
      → AllWithin (λ r. page < r.first) runs (suc place) (length runs)
      → page_at runs page
      ≡ (if in_pages run.first run.pages page then Some (run.index + (page - run.first), run.value)
      else None)
  page_at-last from [] place page run apart l is before after = absurd (omega arith)
  page_at-last from (r ∷ runs) zero page run apart l is before after =
      let rest : page_at runs page ≡ None = page_at-none (end_of r) runs page apart.3
      (λ k d low high. after (suc k) d (omega arith) (omega arith)) in
      rw (← is)
      (ap (λ o. if in_pages run.first run.pages page then Some (
        run.index + (page - run.first),
        run.value,
      ) else o) rest)
  page_at-last from (r ∷ runs) (suc place) page run apart l is before after =
      let later : end_of r ≤ (get_or runs place run).first =
      apart-from (end_of r) runs place run apart.3 (omega arith) in
      let here : (get_or runs place run).first ≤ page =
      before (suc place) run (omega arith) (omega arith) in
      rw (in_pages-above r.first r.pages page (omega arith))
      (page_at-last (end_of r) runs place page run apart.3 (omega arith) is
      (λ k d low high. before (suc k) d (omega arith) (omega arith))
      (λ k d low high. after (suc k) d (omega arith) (omega arith)))

  pub page_at-missed : (runs : List (Run T)) (count page : ℕ) (run : Run T) → AreApart 0 runs
      → count ≤ length runs → StartsAround runs count page → (count ≡ 0 → ⊥)
      → run ≡ get_or runs (count - 1) run → run.pages ≤ page - run.first → None ≡ page_at runs page
  page_at-missed runs count page run apart within parts some is long =
      let low : (get_or runs (count - 1) run).first ≤ page = parts.0 (count - 1) run (omega arith)
      (omega arith) in
      let low' : run.first ≤ page = subst (λ (r : Run T). r.first ≤ page) (sym is) low in
      let outside : in_pages run.first run.pages page ≡ false =
      in_pages-above run.first run.pages page (omega arith) in
      let last = page_at-last 0 runs (count - 1) page run apart (omega arith) is
      (λ k d low high. parts.0 k d low (omega arith))
      (λ k d low high. parts.1 k d (omega arith) high) in
      sym (last ∙ ap (λ b. if b then Some (run.index + (page - run.first), run.value) else None)
      outside)

  pub run-bounds : (runs : List (Run T)) (i : ℕ) (run : Run T) → AreApart 0 runs → i < length runs
      → run ≡ get_or runs i run → (end_of run ≤ 2 ^ 35) × (run.index + run.pages ≤ 2 ^ 48)
  run-bounds runs i run apart l is =
      subst (λ (r : Run T). (end_of r ≤ 2 ^ 35) × (r.index + r.pages ≤ 2 ^ 48)) (sym is)
      (apart-bounds 0 runs i run apart l)

  -- a run says what its pages are
  pub page_at-inside : (from : ℕ) (runs : List (Run T)) (i p : ℕ) (run : Run T) → AreApart from runs
      → i < length runs → run ≡ get_or runs i run → run.first ≤ p → p < end_of run
      → page_at runs p ≡ Some (run.index + (p - run.first), run.value)
  page_at-inside from [] i p run apart l is low high = absurd (omega arith)
  page_at-inside from (r ∷ runs) zero p run apart l is low high =
      rw (← is)
      (ap (λ b. if b then Some (run.index + (p - run.first), run.value) else page_at runs p)
      (in_pages-true run.first run.pages p low high))
  page_at-inside from (r ∷ runs) (suc i) p run apart l is low high =
      let later : end_of r ≤ (get_or runs i run).first = apart-from (end_of r) runs i run apart.3
      (omega arith) in
      let low' : (get_or runs i run).first ≤ p = subst (λ (q : Run T). q.first ≤ p) is low in
      rw (in_pages-above r.first r.pages p (omega arith))
      (page_at-inside (end_of r) runs i p run apart.3 (omega arith) is low high)

  pub holds : (runs : List (Run T)) (count page : ℕ) (run : Run T) → AreApart 0 runs
      → count ≤ length runs → StartsAround runs count page → (count ≡ 0 → ⊥)
      → run ≡ get_or runs (count - 1) run → page - run.first < run.pages → HoldsPage runs run page
  holds runs count page run apart within parts some is short =
      let low : (get_or runs (count - 1) run).first ≤ page = parts.0 (count - 1) run (omega arith)
      (omega arith) in
      let low' : run.first ≤ page = subst (λ (r : Run T). r.first ≤ page) (sym is) low in
      let bounds = run-bounds runs (count - 1) run apart (omega arith) is in
      record {
        from = low';
        to = omega arith;
        in_range = record { end = bounds.0; index = bounds.1 };
        pages = λ p a b. page_at-inside 0 runs (count - 1) p run apart (omega arith) is a b;
      }

  pub pages-some : (from : ℕ) (runs : List (Run T)) (i : ℕ) (run : Run T) → AreApart from runs
      → i < length runs → run ≡ get_or runs i run → 0 < run.pages
  pages-some from [] i run apart l is = absurd (omega arith)
  pages-some from (r ∷ runs) zero run apart l is = subst (λ (q : Run T). 0 < q.pages) (sym is)
      apart.1
  pages-some from (r ∷ runs) (suc i) run apart l is = pages-some (end_of r) runs i run apart.3
      (omega arith) is
