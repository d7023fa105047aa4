-- The run that ends where a span begins: it stays where the span's first page was not mapped.
use Rattle.std.proofs.Common.{◌≡◌, ℕ, zero, suc, ◌+◌, ◌-◌, ◌<◌, ◌≤◌, ◌&&◌, not, Bool, true, false}
use Rattle.std.proofs.Common.{is_some, Option, Some, None, List, length, get_or, refl, sym, ap}
use Rattle.std.proofs.Common.{subst, ◌∙◌, arith, inl, inr}
use Rattle.std.proofs.lemmas.Bool.{cases_lt}
use Rattle.std.proofs.lemmas.List.{get_or_default}
use Rattle.numa_ranges.specs.Runs.{end_of, page_at, AreApart}
use Rattle.numa_ranges.specs.Counts.{goes_on, is_start, IsRange}
use Rattle.numa_ranges.specs.Windows.{IsWindow, to_now}
use Rattle.numa_ranges.specs.declared.run.Run.{Run}
use Rattle.numa_ranges.proofs.Apart.{page_at-inside}
use Rattle.numa_ranges.proofs.Laws.{each-range, range-contains}
use Rattle.numa_ranges.proofs.Moves.{AreLeft, ends-rising, each-some, window-now}

module _ {T : Type 0} where
  -- what a list says of a run's first page
  pub run-page : (low : ℕ) (runs : List (Run T)) (k : ℕ) (d : Run T) → AreApart low runs
      → k < length runs → page_at runs (get_or runs k d).first
      ≡ Some ((get_or runs k d).index, (get_or runs k d).value)
  run-page low runs k d apart l =
      let run : Run T = get_or runs k d in
      let some : 0 < run.pages = each-some low runs k d apart l in
      let place : run.index + (run.first - run.first) ≡ run.index = omega arith in
      page_at-inside low runs k run.first run apart l (get_or_default runs k d run l) (omega arith)
      (omega arith) ∙ ap (λ n. Some (n, run.value)) place

module _ {T : Type 0} (same : T → T → Bool) (exact : (a b : T) → same a b ≡ true → a ≡ b)
    (itself : (a : T) → same a a ≡ true) where
  start-agreed : (at at' : ℕ → Option (ℕ × T)) (page : ℕ) → ((p : ℕ) → p ≤ page → at p ≡ at' p)
      → is_start same at' page ≡ is_start same at page
  start-agreed at at' zero agree = ap is_some (sym (agree 0 (omega arith)))
  start-agreed at at' (suc page) agree =
      let here = agree (suc page) (omega arith) in
      let before = agree page (omega arith) in
      λ i. is_some (sym here i) && not (goes_on same (sym before i) (sym here i))

  nothing-next : (before : Option (ℕ × T)) → goes_on same before None ≡ false
  nothing-next None = refl
  nothing-next (Some p) = refl

  pub left-same : (first end : ℕ) (old new : List (Run T))
      → AreLeft same exact itself first end old new → (from to : ℕ) → IsWindow old first end from to
      → (d : Run T) → page_at old first ≡ None → from < to_now old new to
      → end_of (get_or new from d) ≤ first → (from < to) × (get_or new from d ≡ get_or old from d)
  left-same first end old new left from to window d free some short =
      let run : Run T = get_or new from d in
      let now = window-now same exact itself first end old new left from to window in
      let l : from < length new = omega (arith, now.within) in
      let long : first ≤ end_of run = now.reaching from d (omega arith) l in
      let range : IsRange same (page_at new) run = each-range same exact itself 0 new left.apart_now
      left.maximal_now from d l in
      let pages : 0 < run.pages = range.some in
      let next : page_at old (end_of run) ≡ None =
      ap (page_at old) (let is : end_of run ≡ first = omega arith in is) ∙ free in
      let there : IsRange same (page_at old) run = record {
        some = range.some;
        pages = λ page a b. left.agree.below page (omega arith) ∙ range.pages page a b;
        begins = start-agreed (page_at new) (page_at old) run.first
            (λ p a. sym (left.agree.below p (omega arith))) ∙ range.begins;
        ends = ap (goes_on same (page_at old (end_of run - 1))) next
            ∙ nothing-next (page_at old (end_of run - 1));
      } in
      let at = range-contains same exact itself old run left.apart left.maximal there in
      let place : at.0 ≡ from =
      elim (cases_lt at.0 from) [
        | inl before ↦
            absurd (let ends : end_of run < first = subst (λ (r : Run T). end_of r < first) at.2
            (window.before at.0 run (omega arith) before) in omega arith)
        | inr ge ↦ elim (cases_lt from at.0) [
          | inl behind ↦ absurd (let begins : end_of (get_or old from run) ≤ run.first =
              subst (λ (r : Run T). end_of (get_or old from run) ≤ r.first) at.2
              (ends-rising 0 old from at.0 run left.apart behind at.1) in
              omega (arith, window.reaching from run (omega arith) (omega (arith, at.1))))
          | inr le ↦ omega arith
        ]
      ] in
      let l' : from < length old = omega (arith, at.1, place) in
      let here : get_or old from run ≡ run = ap (λ n. get_or old n run) (sym place) ∙ at.2 in (
        elim (cases_lt from to) [
          | inl lt ↦ lt
          | inr ge ↦
              absurd (let begins : end < run.first = subst (λ (r : Run T). end < r.first) here
              (window.behind from run ge l') in omega (arith, left.rises))
        ],
        sym here ∙ get_or_default old from run d l',
      )
