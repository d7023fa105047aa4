-- Pages of a span that are changed each by itself: at most as many runs meet the span as before.
use Rattle.std.proofs.Common.{◌≡◌, ℕ, zero, suc, ◌+◌, ◌-◌, ◌<◌, ◌≤◌, ◌&&◌, not, eqb, cond, Bool}
use Rattle.std.proofs.Common.{true, false, is_some, Option, Some, None, List, [], ◌∷◌, get_or, refl}
use Rattle.std.proofs.Common.{sym, ap, subst, ◌∙◌, arith, inl, inr}
use Rattle.std.specs.Option.{option_map}
use Rattle.std.proofs.lemmas.Bool.{cases_lt, cases_Bool, eq-eqb}
use Rattle.numa_ranges.specs.Runs.{page_at, AreApart, AreMaximal}
use Rattle.numa_ranges.specs.Counts.{goes_on, is_start}
use Rattle.numa_ranges.specs.Edits.{edited_page}
use Rattle.numa_ranges.specs.Windows.{met}
use Rattle.numa_ranges.specs.declared.run.Run.{Run}
use Rattle.numa_ranges.proofs.Joined.{and_split}
use Rattle.numa_ranges.proofs.Laws.{each-range, found, inside, goes-inside, stops-start}
use Rattle.numa_ranges.proofs.Fewer.{begins_at, begins-place, place-begins, few-if, begun-fewer}
use Rattle.numa_ranges.proofs.Fewer.{met-split}

some-at : {X : Type 0} (o : Option X) → is_some o ≡ true → (x : X) × (o ≡ Some x)
some-at None is = absurd (cc)
some-at (Some x) is = (x, refl)

more-some : (a b : Bool) → (a ≡ true → b ≡ true) → cond {A = ℕ} a 1 0 ≤ cond {A = ℕ} b 1 0
more-some false b h = omega arith
more-some true b h = rw (h refl) (omega arith)

module _ {T : Type 0} (same : T → T → Bool) (exact : (a b : T) → same a b ≡ true → a ≡ b)
    (itself : (a : T) → same a a ≡ true) where
  -- whether a range begins at a page that stands behind another
  abbrev begins_behind : Option (ℕ × T) → Option (ℕ × T) → Bool
  begins_behind before here = is_some here && not (goes_on same before here)

  start-some : (at : ℕ → Option (ℕ × T)) (page : ℕ) → is_start same at page ≡ true
      → is_some (at page) ≡ true
  start-some at zero is = is
  start-some at (suc page) is =
      (and_split (is_some (at (suc page))) (not (goes_on same (at page) (at (suc page)))) is).0

  -- a run begins where a range of the map does
  pub begins-start : (runs : List (Run T)) (page : ℕ) → AreApart 0 runs → AreMaximal runs
      → begins_at runs page ≡ true → is_start same (page_at runs) page ≡ true
  begins-start [] page apart maximal is = absurd (cc)
  begins-start (run ∷ runs) page apart maximal is =
      let place = begins-place (run ∷ runs) page run is in
      subst (λ (p : ℕ). is_start same (page_at (run ∷ runs)) p ≡ true) place.2
      (each-range same exact itself 0 (run ∷ runs) apart maximal place.0 run place.1).begins

  pub start-begins : (runs : List (Run T)) (page : ℕ) → AreApart 0 runs → AreMaximal runs
      → is_start same (page_at runs) page ≡ true → begins_at runs page ≡ true
  start-begins [] page apart maximal is = let odd : false ≡ true =
      start-some (page_at []) page is in absurd (cc)
  start-begins (run ∷ runs) page apart maximal is =
      let mapped =
      some-at (page_at (run ∷ runs) page) (start-some (page_at (run ∷ runs)) page is) in
      let place = found (run ∷ runs) page mapped.0 run mapped.1 in
      let range = get_or (run ∷ runs) place.0 run in
      let pages = inside range.first range.pages page place.2 in
      elim (cases_lt range.first page) [
        | inr ge ↦ place-begins (run ∷ runs) place.0 page run place.1 (omega (arith, pages.0))
        | inl lt ↦
            let before : page - 1 + 1 ≡ page = omega arith in
            let goes : goes_on same (page_at (run ∷ runs) (page - 1))
            (page_at (run ∷ runs) (page - 1 + 1)) ≡ true =
            goes-inside same exact itself (page_at (run ∷ runs)) range (page - 1)
            (each-range same exact itself 0 (run ∷ runs) apart maximal place.0 run place.1)
            (omega arith) (omega (arith, pages.1)) in
            let stops : goes_on same (page_at (run ∷ runs) (page - 1)) (page_at (run ∷ runs) page)
            ≡ false = stops-start same exact itself (page_at (run ∷ runs)) page (omega arith)
            is in
            let odd : true ≡ false = sym goes
            ∙ ap (λ n. goes_on same (page_at (run ∷ runs) (page - 1)) (page_at (run ∷ runs) n))
            before ∙ stops in
            absurd (cc)
      ]

  -- an edit by a page's value alone makes no page begin a range that went on before
  start-edited : (edit : T → Option T) (a b : Option (ℕ × T))
      → begins_behind (edited_page edit a) (edited_page edit b) ≡ true → begins_behind a b ≡ true
  start-edited edit a None is = absurd (cc)
  start-edited edit None (Some q) is = refl
  start-edited edit (Some r) (Some q) is =
      elim (cases_Bool (eqb q.0 (r.0 + 1) && same r.1 q.1)) [
        | inr stops ↦ rw stops refl
        | inl goes ↦
            let both = and_split (eqb q.0 (r.0 + 1)) (same r.1 q.1) goes in
            let value : r.1 ≡ q.1 = exact r.1 q.1 both.1 in
            let here : T → Option (ℕ × T) = λ v. Some (q.0, v) in
            let is' : begins_behind (edited_page edit (Some r)) (edited_page edit (here r.1))
            ≡ true =
            subst (λ (v : T). begins_behind (edited_page edit (Some r))
            (edited_page edit (here v)) ≡ true) (sym value) is in
            absurd (odd r.0 q.0 (edit r.1) both.0 is')
      ]
    where
      odd : (i j : ℕ) (o : Option T) → eqb j (i + 1) ≡ true
          → begins_behind (option_map (λ (v : T). (i, v)) o) (option_map (λ (v : T). (j, v)) o)
          ≡ true → ⊥
      odd i j None step is = cc
      odd i j (Some v) step is = let no : false ≡ true = rw (step, itself v) at is in cc

  module _ (first end : ℕ) (old new : List (Run T)) (apart : AreApart 0 old)
      (apart_now : AreApart 0 new) (maximal : AreMaximal old) (maximal_now : AreMaximal new) where
    -- where each page of a span is changed by its value alone, at most as many runs meet the span
    pub met-edited : (edit : T → Option T) → first < end
        → ((page : ℕ) → first ≤ page → page < end
        → page_at new page ≡ edited_page edit (page_at old page))
        → met first end new ≤ met first end old
    met-edited edit some pages =
        let head : is_some (page_at new first) ≡ true → is_some (page_at old first) ≡ true =
        λ is. held (page_at old first) (ap is_some (sym (pages first (omega arith) some))
        ∙ is) in
        let begins : (page : ℕ) → first + 1 ≤ page → page < end → begins_at new page ≡ true
        → begins_at old page ≡ true = λ page low high is. start-begins old page apart maximal
        (moved page low high (begins-start new page apart_now maximal_now is)) in
        omega (
          arith,
          met-split 0 first end new apart_now some,
          met-split 0 first end old apart some,
          more-some (is_some (page_at new first)) (is_some (page_at old first)) head,
          begun-fewer 0 0 (first + 1) end old new apart apart_now begins,
        )
      where
        held : (o : Option (ℕ × T)) → is_some (edited_page edit o) ≡ true → is_some o ≡ true
        held None is = absurd (cc)
        held (Some p) is = refl

        moved : (page : ℕ) → first + 1 ≤ page → page < end → is_start same (page_at new) page ≡ true
            → is_start same (page_at old) page ≡ true
        moved zero low high is = absurd (omega arith)
        moved (suc page) low high is =
            let here = pages (suc page) (omega arith) high in
            let before = pages page (omega arith) (omega arith) in
            start-edited edit (page_at old page) (page_at old (suc page))
            ((λ i. begins_behind (sym before i) (sym here i)) ∙ is)

  module _ (first end : ℕ) (runs : List (Run T)) (apart : AreApart 0 runs)
      (maximal : AreMaximal runs) where
    -- where no page of a span is mapped, no run meets it
    pub met-none : first < end → ((page : ℕ) → first ≤ page → page < end → page_at runs page ≡ None)
        → met first end runs ≡ 0
    met-none some pages =
        let begins : (page : ℕ) → first + 1 ≤ page → page < end → begins_at runs page ≡ true
        → begins_at {T = T} [] page ≡ true = λ page low high is.
        absurd (let odd : false ≡ true = ap is_some (sym (pages page (omega arith) high))
        ∙ start-some (page_at runs) page (begins-start runs page apart maximal is) in cc) in
        let none : cond {A = ℕ} (is_some (page_at runs first)) 1 0 ≡ 0 =
        ap (λ o. cond {A = ℕ} (is_some o) 1 0) (pages first (omega arith) some) in
        omega (
          arith,
          met-split 0 first end runs apart some,
          none,
          begun-fewer 0 0 (first + 1) end [] runs (omega arith) apart begins,
        )

    -- where a span is mapped as one, one run meets it
    pub met-mapped : (index : ℕ) (value : T) → first < end
        → ((page : ℕ) → first ≤ page → page < end
        → page_at runs page ≡ Some (index + (page - first), value)) → met first end runs ≤ 1
    met-mapped index value some pages =
        let begins : (page : ℕ) → first + 1 ≤ page → page < end → begins_at runs page ≡ true
        → begins_at {T = T} [] page ≡ true = λ page low high is.
        absurd (goes page low high (begins-start runs page apart maximal is)) in
        omega (
          arith,
          met-split 0 first end runs apart some,
          few-if (is_some (page_at runs first)),
          begun-fewer 0 0 (first + 1) end [] runs (omega arith) apart begins,
        )
      where
        goes : (page : ℕ) → first + 1 ≤ page → page < end → is_start same (page_at runs) page ≡ true
            → ⊥
        goes zero low high is = omega arith
        goes (suc page) low high is =
            let stops = stops-start same exact itself (page_at runs) (suc page) (omega arith) is in
            let here = pages (suc page) (omega arith) high in
            let before = pages page (omega arith) (omega arith) in
            let step : index + (suc page - first) ≡ index + (page - first) + 1 = omega arith in
            let on : goes_on same (Some (index + (page - first), value))
            (Some (index + (suc page - first), value)) ≡ true =
            rw (
              eq-eqb (index + (suc page - first)) (index + (page - first) + 1) step,
              itself value,
            ) refl in
            let last : suc page - 1 ≡ page = omega arith in
            let odd : true ≡ false = sym on ∙ sym (λ i. goes_on same (before i) (here i))
            ∙ sym (ap (λ n. goes_on same (page_at runs n) (page_at runs (suc page))) last)
            ∙ stops in
            cc
