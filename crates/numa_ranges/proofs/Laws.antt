-- The runs that a map keeps are its ranges, and no other list of maximal runs says the same of
-- every page.
use Rattle.std.proofs.Common.{◌≡◌, ℕ, zero, suc, ◌+◌, ◌-◌, ◌<◌, ◌≤◌, not, eqb, Bool, true, false}
use Rattle.std.proofs.Common.{is_some, Option, Some, None, List, [], ◌∷◌, length, get_or, refl, sym}
use Rattle.std.proofs.Common.{ap, subst, ◌∙◌, arith, inl, inr}
use Rattle.std.specs.Prelude.{Contains, nat_le, nat_lt, unwrap_or}
use Rattle.std.proofs.lemmas.Bool.{cases_lt, cases_Bool, eq-eqb, leb-true, ltb-true}
use Rattle.numa_ranges.specs.Runs.{in_pages, end_of, page_at, AreApart, NotContinued, AreMaximal}
use Rattle.numa_ranges.specs.Counts.{goes_on, is_start, range_count, IsRange}
use Rattle.numa_ranges.specs.Maps.{Shows}
use Rattle.numa_ranges.specs.declared.run.Run.{Run}
use Rattle.numa_ranges.proofs.Apart.{in_pages-true, apart-from, page_at-before}
use Rattle.numa_ranges.proofs.Joined.{and_split}
use Rattle.numa_ranges.proofs.Counted.{behind-run, start-behind, gap, head, starts, starts-alone}
use Rattle.numa_ranges.proofs.Counted.{range_count-length}

not-true : (b : Bool) → not b ≡ true → b ≡ false
not-true true h = cc
not-true false h = refl

-- a page that is in a run's pages is among them
pub inside : (first pages page : ℕ) → in_pages first pages page ≡ true → (first ≤ page)
    × (page < first + pages)
inside first pages page h =
    let both = and_split (nat_le first page) (nat_lt page (first + pages)) h in
    (leb-true first page both.0, ltb-true page (first + pages) both.1)

module _ {T : Type 0} where
  -- where a page is mapped, a run of the list has it
  pub found : (runs : List (Run T)) (page : ℕ) (p : ℕ × T) (d : Run T) → page_at runs page ≡ Some p
      → (k : ℕ) × (k < length runs)
      × (in_pages (get_or runs k d).first (get_or runs k d).pages page ≡ true)
  found [] page p d h = cc
  found (run ∷ runs) page p d h =
      elim (cases_Bool (in_pages run.first run.pages page)) [
        | inl here ↦ (0, omega arith, here)
        | inr out ↦
            let rest = found runs page p d (rw out at h) in
            (suc rest.0, omega (arith, rest.1), rest.2)
      ]

module _ {T : Type 0} (same : T → T → Bool) (exact : (a b : T) → same a b ≡ true → a ≡ b)
    (itself : (a : T) → same a a ≡ true) where
  -- nothing goes on to a page that is not mapped, or at which a range begins
  stops-none : (before : Option (ℕ × T)) → goes_on same before None ≡ false
  stops-none None = refl
  stops-none (Some p) = refl

  pub stops-start : (at : ℕ → Option (ℕ × T)) (page : ℕ) → 0 < page → is_start same at page ≡ true
      → goes_on same (at (page - 1)) (at page) ≡ false
  stops-start at zero some h = absurd (omega arith)
  stops-start at (suc page) some h =
      let before : suc page - 1 ≡ page = omega arith in
      let both = and_split (is_some (at (suc page))) (not (goes_on same (at page) (at (suc page))))
      h in
      rw before (not-true (goes_on same (at page) (at (suc page))) both.1)

  ends-head : (run : Run T) (runs : List (Run T)) → 0 < run.pages → AreApart (end_of run) runs
      → NotContinued run runs → goes_on same (page_at (run ∷ runs) (end_of run - 1))
      (page_at (run ∷ runs) (end_of run)) ≡ false
  ends-head run [] some apart first =
      ap (goes_on same (page_at (run ∷ []) (end_of run - 1)))
      (behind-run same exact itself run [] (end_of run) (omega arith))
      ∙ stops-none (page_at (run ∷ []) (end_of run - 1))
  ends-head run (next ∷ runs) some apart first =
      let all = run ∷ next ∷ runs in
      elim (cases_lt (end_of run) next.first) [
        | inl hole ↦
            let none : page_at all (end_of run) ≡ None =
            behind-run same exact itself run (next ∷ runs) (end_of run) (omega arith)
            ∙ gap same exact itself next runs (end_of run) apart.3 hole in
            ap (goes_on same (page_at all (end_of run - 1))) none
            ∙ stops-none (page_at all (end_of run - 1))
        | inr beside ↦ stops-start (page_at all) (end_of run) (omega arith)
            (starts same exact itself run next runs (end_of run) (omega (arith, apart.0)) some
            apart.1 apart.0 apart.3 first)
      ]

  pub range-head : (from : ℕ) (run : Run T) (runs : List (Run T)) → AreApart from (run ∷ runs)
      → AreMaximal (run ∷ runs) → IsRange same (page_at (run ∷ runs)) run
  range-head from run runs apart maximal = record {
    some = apart.1;
    pages = λ page low high. rw (in_pages-true run.first run.pages page low high) refl;
    begins = starts-alone same exact itself run runs run.first refl apart.1 apart.3;
    ends = ends-head run runs apart.1 apart.3 maximal.0;
  }

  -- a range of the runs behind a run, where it begins one of the longer list too
  range-behind : (run : Run T) (runs : List (Run T)) (range : Run T) → end_of run ≤ range.first
      → is_start same (page_at (run ∷ runs)) range.first ≡ true → IsRange same (page_at runs) range
      → IsRange same (page_at (run ∷ runs)) range
  range-behind run runs range low begins is =
      let some = is.some in
      let last : page_at (run ∷ runs) (end_of range - 1) ≡ page_at runs (end_of range - 1) =
      behind-run same exact itself run runs (end_of range - 1) (omega arith) in
      let next : page_at (run ∷ runs) (end_of range) ≡ page_at runs (end_of range) =
      behind-run same exact itself run runs (end_of range) (omega arith) in
      record {
        some = is.some;
        pages = λ page a b. behind-run same exact itself run runs page (omega arith)
            ∙ is.pages page a b;
        begins = begins;
        ends = (λ i. goes_on same (last i) (next i)) ∙ is.ends;
      }

  -- each run of a list that rises and is maximal is a range of its map
  pub each-range : (from : ℕ) (runs : List (Run T)) → AreApart from runs → AreMaximal runs
      → (k : ℕ) (d : Run T) → k < length runs → IsRange same (page_at runs) (get_or runs k d)
  each-range from [] apart maximal k d l = absurd (omega arith)
  each-range from (run ∷ runs) apart maximal zero d l = range-head from run runs apart maximal
  each-range from (run ∷ []) apart maximal (suc k) d l = absurd (omega arith)
  each-range from (run ∷ next ∷ runs) apart maximal (suc zero) d l =
      range-behind run (next ∷ runs) next apart.3.0
      (starts same exact itself run next runs next.first refl apart.1 apart.3.1 apart.3.0
      apart.3.3 maximal.0) (range-head (end_of run) next runs apart.3 maximal.1)
  each-range from (run ∷ next ∷ runs) apart maximal (suc (suc k)) d l =
      let range = get_or runs k d in
      let inner : IsRange same (page_at (next ∷ runs)) range = each-range (end_of run) (next ∷ runs)
      apart.3 maximal.1 (suc k) d (omega arith) in
      let far : end_of next ≤ range.first = apart-from (end_of next) runs k d apart.3.3
      (omega arith) in
      let ahead : end_of run < range.first = omega (arith, apart.3.0, apart.3.1) in
      range-behind run (next ∷ runs) range (omega arith)
      (start-behind same exact itself run (next ∷ runs) range.first ahead ∙ inner.begins) inner

  -- inside a range each page goes on where the one before it stands
  pub goes-inside : (at : ℕ → Option (ℕ × T)) (run : Run T) (page : ℕ) → IsRange same at run
      → run.first ≤ page → page + 1 < end_of run → goes_on same (at page) (at (page + 1)) ≡ true
  goes-inside at run page is low high =
      let here = is.pages page low (omega arith) in
      let next = is.pages (page + 1) (omega arith) high in
      let place : run.index + (page + 1 - run.first) ≡ run.index + (page - run.first) + 1 =
      omega arith in
      let steps : eqb (run.index + (page + 1 - run.first)) (run.index + (page - run.first) + 1)
      ≡ true = eq-eqb _ _ place in
      rw (here, next, steps, itself run.value) refl

  first-shared : (at : ℕ → Option (ℕ × T)) (a b : Run T) (page : ℕ) → IsRange same at a
      → IsRange same at b → a.first ≤ page → page < end_of a → b.first ≤ page → b.first ≤ a.first
  first-shared at a b page in_a in_b low high low' =
      elim (cases_lt a.first b.first) [
        | inr le ↦ le
        | inl lt ↦
            let before : b.first - 1 + 1 ≡ b.first = omega arith in
            let goes : goes_on same (at (b.first - 1)) (at (b.first - 1 + 1)) ≡ true =
            goes-inside at a (b.first - 1) in_a (omega arith) (omega arith) in
            let stops : goes_on same (at (b.first - 1)) (at b.first) ≡ false =
            stops-start at b.first (omega arith) in_b.begins in
            let odd : true ≡ false = sym goes ∙ ap (λ n. goes_on same (at (b.first - 1)) (at n))
            before ∙ stops in
            cc
      ]

  end-shared : (at : ℕ → Option (ℕ × T)) (a b : Run T) → IsRange same at a → IsRange same at b
      → a.first ≡ b.first → end_of a ≤ end_of b
  end-shared at a b in_a in_b first =
      elim (cases_lt (end_of b) (end_of a)) [
        | inr le ↦ le
        | inl lt ↦
            let some = in_b.some in
            let before : end_of b - 1 + 1 ≡ end_of b = omega arith in
            let goes : goes_on same (at (end_of b - 1)) (at (end_of b - 1 + 1)) ≡ true =
            goes-inside at a (end_of b - 1) in_a (omega arith) (omega arith) in
            let odd : true ≡ false = sym goes ∙ ap (λ n. goes_on same (at (end_of b - 1)) (at n))
            before ∙ in_b.ends in
            cc
      ]

  -- two ranges of a map that share a page are one
  pub one-range : (at : ℕ → Option (ℕ × T)) (a b : Run T) (page : ℕ) → IsRange same at a
      → IsRange same at b → a.first ≤ page → page < end_of a → b.first ≤ page → page < end_of b
      → a ≡ b
  one-range at a b page in_a in_b low high low' high' =
      let le = first-shared at a b page in_a in_b low high low' in
      let ge = first-shared at b a page in_b in_a low' high' low in
      let first : a.first ≡ b.first = omega arith in
      let back : b.first ≡ a.first = omega arith in
      let short = end-shared at a b in_a in_b first in
      let long = end-shared at b a in_b in_a back in
      let pages : a.pages ≡ b.pages = omega arith in
      let some_a = in_a.some in
      let some_b = in_b.some in
      let says : Some (a.index + (a.first - a.first), a.value)
      ≡ Some (b.index + (a.first - b.first), b.value) =
      sym (in_a.pages a.first (omega arith) (omega arith)) ∙ in_b.pages a.first (omega arith)
      (omega arith) in
      let both : (a.index + (a.first - a.first), a.value)
      ≡ (b.index + (a.first - b.first), b.value) = ap (λ o. unwrap_or o (a.index, a.value))
      says in
      let place : a.index + (a.first - a.first) ≡ b.index + (a.first - b.first) =
      ap (λ (p : ℕ × T). p.0) both in
      let index : a.index ≡ b.index = omega arith in
      let value : a.value ≡ b.value = ap (λ (p : ℕ × T). p.1) both in
      λ i. record { first = first i; pages = pages i; index = index i; value = value i }

  -- a run is in the list exactly where it is a range
  pub contains-range : (runs : List (Run T)) (run : Run T) → AreApart 0 runs → AreMaximal runs
      → Contains runs run → IsRange same (page_at runs) run
  contains-range runs run apart maximal at = subst (IsRange same (page_at runs)) at.2
      (each-range 0 runs apart maximal at.0 run at.1)

  pub range-contains : (runs : List (Run T)) (run : Run T) → AreApart 0 runs → AreMaximal runs
      → IsRange same (page_at runs) run → Contains runs run
  range-contains runs run apart maximal is =
      let some = is.some in
      let place = found runs run.first (run.index + (run.first - run.first), run.value) run
      (is.pages run.first (omega arith) (omega arith)) in
      let pages = inside (get_or runs place.0 run).first (get_or runs place.0 run).pages run.first
      place.2 in (
        place.0,
        place.1,
        one-range (page_at runs) (get_or runs place.0 run) run run.first
            (each-range 0 runs apart maximal place.0 run place.1) is pages.0 pages.1 (omega arith)
            (omega arith),
      )

  first-mapped : (from : ℕ) (xs ys : List (Run T)) (x y : Run T) → AreApart from (x ∷ xs)
      → AreApart from (y ∷ ys) → ((page : ℕ) → page_at (x ∷ xs) page ≡ page_at (y ∷ ys) page)
      → y.first ≤ x.first
  first-mapped from xs ys x y apart apart' agree =
      elim (cases_lt x.first y.first) [
        | inr le ↦ le
        | inl lt ↦
            let mapped : page_at (x ∷ xs) x.first ≡ Some (x.index, x.value) =
            head same exact itself x xs x.first refl apart.1 in
            let none : page_at (y ∷ ys) x.first ≡ None = gap same exact itself y ys x.first apart'.3
            lt in
            let odd : true ≡ false = ap is_some (sym mapped ∙ agree x.first ∙ none) in
            cc
      ]

  -- two lists that rise, are maximal and say the same of every page are one list
  pub same-runs : (from : ℕ) (xs ys : List (Run T)) → AreApart from xs → AreApart from ys
      → AreMaximal xs → AreMaximal ys → ((page : ℕ) → page_at xs page ≡ page_at ys page) → xs ≡ ys
  same-runs from [] [] apart apart' maximal maximal' agree = refl
  same-runs from [] (y ∷ ys) apart apart' maximal maximal' agree =
      let odd : false ≡ true =
      ap is_some (agree y.first ∙ head same exact itself y ys y.first refl apart'.1) in
      cc
  same-runs from (x ∷ xs) [] apart apart' maximal maximal' agree =
      let odd : true ≡ false =
      ap is_some (sym (head same exact itself x xs x.first refl apart.1) ∙ agree x.first) in
      cc
  same-runs from (x ∷ xs) (y ∷ ys) apart apart' maximal maximal' agree =
      let le = first-mapped from xs ys x y apart apart' agree in
      let ge = first-mapped from ys xs y x apart' apart (λ page. sym (agree page)) in
      let some = apart.1 in
      let some' = apart'.1 in
      let whole : page_at (x ∷ xs) ≡ page_at (y ∷ ys) = λ i page. agree page i in
      let there : IsRange same (page_at (x ∷ xs)) y = subst (λ at. IsRange same at y) (sym whole)
      (range-head from y ys apart' maximal') in
      let front : x ≡ y = one-range (page_at (x ∷ xs)) x y x.first
      (range-head from x xs apart maximal) there (omega arith) (omega arith) (omega arith)
      (omega arith) in
      let ends : end_of x ≡ end_of y = ap end_of front in
      let behind : (page : ℕ) → page_at xs page ≡ page_at ys page =
      λ page. elim (cases_lt page (end_of x)) [
        | inl low ↦ page_at-before (end_of x) xs page apart.3 low
            ∙ sym (page_at-before (end_of y) ys page apart'.3 (omega (arith, ends)))
        | inr past ↦ sym (behind-run same exact itself x xs page past) ∙ agree page
            ∙ behind-run same exact itself y ys page (omega (arith, ends))
      ] in
      let rest : xs ≡ ys =
      same-runs (end_of x) xs ys apart.3 (subst (λ (n : ℕ). AreApart n ys) (sym ends) apart'.3)
      maximal.1 maximal'.1 behind in
      λ i. front i ∷ rest i

  -- a map that such a list shows has as many ranges as the list has runs
  pub count-shown : (runs : List (Run T)) (at : ℕ → Option (ℕ × T)) → AreApart 0 runs
      → AreMaximal runs → Shows runs at → range_count same at ≡ length runs
  count-shown runs at apart maximal shows =
      let whole : page_at runs ≡ at = λ i page. shows page i in
      ap (range_count same) (sym whole) ∙ range_count-length same exact itself runs apart maximal
