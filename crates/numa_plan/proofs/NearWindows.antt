-- A window that is looked for beside a guess at its place.
use Rattle.std.proofs.Common.{◌≡◌, ℕ, ◌+◌, ◌-◌, ◌<◌, ◌≤◌, Option, Some, None, List, [], ◌∷◌, ◌++◌}
use Rattle.std.proofs.Common.{length, get_or, sym, ap, subst, ◌∙◌, arith, inl, inr}
use Rattle.std.specs.Prelude.{IfSome}
use Rattle.std.specs.List.{AllWithin, slice_range}
use Rattle.std.proofs.lemmas.Bool.{cases_lt}
use Rattle.numa_ranges.specs.Runs.{AreApart, end_of}
use Rattle.numa_ranges.specs.Windows.{IsWindow}
use Rattle.numa_ranges.specs.declared.run.Run.{Run}
use Rattle.numa_ranges.proofs.Apart.{apart-rising}
use Rattle.numa_ranges.proofs.Window.{window-last}
use Rattle.numa_plan.specs.declared.runs.Beside.{Beside}
use Rattle.numa_plan.proofs.Searching.{apart-ends}

module _ (runs : List (Run (Option ℕ))) (first end : ℕ) where
  -- the runs from `start` to `to` begin by the end of the span; those before `from` end before it,
  -- and the others don't
  pub record IsLookedAt (start from to : ℕ) : Type 0 where
    pub begins : start ≤ from
    pub rises : from ≤ to
    pub within : to ≤ length runs
    pub ended : (d : Run (Option ℕ)) → start < from → end_of (get_or runs (from - 1) d) < first
    pub reaching : AllWithin (λ run. first ≤ end_of run) runs from to
    pub beginning : (d : Run (Option ℕ)) → start < to → (get_or runs (to - 1) d).first ≤ end

  pub looked-none : (start : ℕ) → start ≤ length runs → IsLookedAt start start start
  looked-none start within = record {
    begins = omega arith;
    rises = omega arith;
    within = within;
    ended = λ d some. absurd (omega arith);
    reaching = λ k d low high. absurd (omega arith);
    beginning = λ d some. absurd (omega arith);
  }

  -- one run more
  pub looked-on : (start from to next : ℕ) (run : Run (Option ℕ)) → to < length runs
      → ((d : Run (Option ℕ)) → run ≡ get_or runs to d) → run.first ≤ end
      → (end_of run < first → next ≡ to + 1) → (first ≤ end_of run → next ≡ from)
      → IsLookedAt start from to → IsLookedAt start next (to + 1)
  looked-on start from to next run within is begins over reach h =
      let place : to + 1 - 1 ≡ to = omega arith in
      let here : (d : Run (Option ℕ)) → (get_or runs (to + 1 - 1) d).first ≤ end =
      λ d. subst (λ (n : ℕ). (get_or runs n d).first ≤ end) (sym place)
      (subst (λ (r : Run (Option ℕ)). r.first ≤ end) (is d) begins) in
      elim (cases_lt (end_of run) first) [
        | inl ends ↦
            let all : next ≡ to + 1 = over ends in
            let last : next - 1 ≡ to = omega arith in
            record {
              begins = omega (arith, h.begins, h.rises);
              rises = omega arith;
              within = omega arith;
              ended = λ d some. subst (λ (n : ℕ). end_of (get_or runs n d) < first) (sym last)
                  (subst (λ (r : Run (Option ℕ)). end_of r < first) (is d) ends);
              reaching = λ k d low high. absurd (omega arith);
              beginning = λ d some. here d;
            }
        | inr reaches ↦
            let same : next ≡ from = reach reaches in
            subst (λ (n : ℕ). IsLookedAt start n (to + 1)) (sym same) (record {
              begins = h.begins;
              rises = omega (arith, h.rises);
              within = omega arith;
              ended = h.ended;
              reaching = λ k d low high. elim (cases_lt k to) [
                | inl early ↦ h.reaching k d low early
                | inr late ↦
                    let last : k ≡ to = omega arith in
                    subst (λ (n : ℕ). first ≤ end_of (get_or runs n d)) (sym last)
                    (subst (λ (r : Run (Option ℕ)). first ≤ end_of r) (is d) reaches)
              ];
              beginning = λ d some. here d;
            })
      ]

  -- the runs behind one that begins behind the span do so too
  pub behind-run : (to : ℕ) (run : Run (Option ℕ)) → AreApart 0 runs
      → ((d : Run (Option ℕ)) → run ≡ get_or runs to d) → end < run.first
      → AllWithin (λ run. end < run.first) runs to (length runs)
  behind-run to run apart is past k d low high =
      let here : end < (get_or runs to d).first = subst (λ (r : Run (Option ℕ)). end < r.first)
      (is d) past in
      omega (arith, here, apart-rising 0 runs apart to k d low high)

  -- where a run before it was seen, or none is, and the runs behind it begin behind the span, what
  -- was looked at ends with a window
  pub looked-window : (start from to : ℕ) → AreApart 0 runs → first ≤ end
      → (from ≡ start → start ≡ 0) → AllWithin (λ run. end < run.first) runs to (length runs)
      → IsLookedAt start from to → IsWindow runs first end from to
  looked-window start from to apart le seen behind h = record {
    rises = h.rises;
    within = h.within;
    before = λ k d low high. elim (cases_lt start from) [
      | inl some ↦ elim (cases_lt k (from - 1)) [
        | inl early ↦
            omega (
              arith,
              apart-ends 0 runs apart k (from - 1) d early
                  (omega (arith, h.rises, h.within)),
              h.ended d some,
            )
        | inr late ↦
            let last : k ≡ from - 1 = omega arith in
            subst (λ (n : ℕ). end_of (get_or runs n d) < first) (sym last) (h.ended d some)
      ]
      | inr none ↦
          let zero : start ≡ 0 = seen (omega (arith, h.begins)) in
          absurd (omega arith)
    ];
    reaching = λ k d low high. elim (cases_lt k to) [
      | inl early ↦ h.reaching k d low early
      | inr late ↦ omega (arith, behind k d late high)
    ];
    beginning = λ k d low high. elim (cases_lt start to) [
      | inl some ↦
          omega (
            arith,
            apart-rising 0 runs apart k (to - 1) d (omega arith)
                (omega (arith, h.within)),
            h.beginning d some,
          )
      | inr none ↦
          let zero : start ≡ 0 = seen (omega (arith, h.begins, h.rises)) in
          absurd (omega arith)
    ];
    behind = behind;
  }

  pub looked-found : (found : Option Beside) (start from to : ℕ) → AreApart 0 runs
      → IfSome found (λ f. f.from ≡ from) → IfSome found (λ f. f.to ≡ to)
      → IfSome found (λ f. from ≡ start → start ≡ 0)
      → AllWithin (λ run. end < run.first) runs to (length runs) → IsLookedAt start from to
      → first ≤ end → IfSome found (λ f. IsWindow runs first end f.from f.to)
  looked-found None start from to apart is_from is_to seen behind h le = tt
  looked-found (Some f) start from to apart is_from is_to seen behind h le =
      subst (λ (n : ℕ). IsWindow runs first end n f.to) (sym is_from)
      (subst (λ (n : ℕ). IsWindow runs first end from n) (sym is_to)
      (looked-window start from to apart le seen behind h))

-- one run more is gathered
pub gathered-next : (runs : List (Run (Option ℕ))) (from place : ℕ) (run : Run (Option ℕ))
    → from ≤ place → place < length runs → run ≡ get_or runs place run
    → slice_range runs from (place + 1) ≡ slice_range runs from place ++ run ∷ []
gathered-next runs from place run low within is =
    let back : place + 1 - 1 ≡ place = omega arith in
    window-last runs from (place + 1) run (omega arith) (omega arith)
    ∙ (ap (λ (n : ℕ). slice_range runs from n ++ get_or runs n run ∷ []) back
    ∙ ap (λ (r : Run (Option ℕ)). slice_range runs from place ++ r ∷ []) (sym is))
