-- Runs that are apart, once one is put behind them or in the place of a window.
use Rattle.std.proofs.Common.{ℕ, zero, suc, ◌+◌, ◌<◌, ◌≤◌, ◌^◌, List, [], ◌∷◌, ◌++◌, length}
use Rattle.std.proofs.Common.{take, drop, get_or, subst, arith}
use Rattle.std.proofs.lemmas.List.{take_all}
use Rattle.std.specs.List.{splice}
use Rattle.numa_ranges.specs.Runs.{end_of, AreApart}
use Rattle.numa_ranges.specs.Windows.{IsWindow}
use Rattle.numa_ranges.specs.declared.run.Run.{Run}

module _ {T : Type 0} where
  lower : (low from : ℕ) (runs : List (Run T)) → low ≤ from → AreApart from runs → AreApart low runs
  lower low from [] le apart = omega (arith, apart)
  lower low from (run ∷ runs) le apart = (omega (arith, apart.0), apart.1, apart.2, apart.3)

  -- the runs from a place on begin behind a page
  behind : (from end k : ℕ) (runs : List (Run T)) → AreApart from runs → end ≤ 2 ^ 35
      → k ≤ length runs
      → ((j : ℕ) (d : Run T) → k ≤ j → j < length runs → end < (get_or runs j d).first)
      → AreApart end (drop k runs)
  behind from end zero [] apart low within far = low
  behind from end zero (run ∷ runs) apart low within far =
      (omega (arith, far 0 run (omega arith) (omega arith)), apart.1, apart.2, apart.3)
  behind from end (suc k) [] apart low within far = absurd (omega arith)
  behind from end (suc k) (run ∷ runs) apart low within far = behind (end_of run) end k runs apart.3
      low (omega arith) (λ j d more lt. far (suc j) d (omega arith) (omega arith))

  -- the runs up to a place end before others begin
  joined : (from first k : ℕ) (runs rest : List (Run T)) → AreApart from runs → from ≤ first
      → k ≤ length runs → ((j : ℕ) (d : Run T) → j < k → end_of (get_or runs j d) ≤ first)
      → AreApart first rest → AreApart from (take k runs ++ rest)
  joined from first zero runs rest apart le within before others = lower from first rest le others
  joined from first (suc k) [] rest apart le within before others = absurd (omega arith)
  joined from first (suc k) (run ∷ runs) rest apart le within before others = (
    apart.0,
    apart.1,
    apart.2,
    joined (end_of run) first k runs rest apart.3
        (before 0 run (omega arith)) (omega arith) (λ j d lt. before (suc j) d (omega arith))
        others,
  )

  pub window-apart : (runs : List (Run T)) (from to : ℕ) (run : Run T) → AreApart 0 runs
      → IsWindow runs run.first (end_of run) from to → 0 < run.pages
      → run.index + run.pages ≤ 2 ^ 48 → end_of run ≤ 2 ^ 35
      → AreApart 0 (splice runs from to (run ∷ []))
  window-apart runs from to run apart window some index low =
      joined 0 run.first from runs (run ∷ drop to runs) apart (omega arith)
      (omega (arith, window.rises, window.within))
      (λ j d lt. omega (arith, window.before j d (omega arith) lt)) (
        omega arith,
        some,
        index,
        behind 0 (end_of run) to runs apart low window.within
            (λ j d more lt. window.behind j d more lt),
      )

  pub pushed-apart : (runs : List (Run T)) (from to : ℕ) (run : Run T) → AreApart 0 runs
      → IsWindow runs run.first (end_of run) from to → length runs ≤ from → 0 < run.pages
      → run.index + run.pages ≤ 2 ^ 48 → end_of run ≤ 2 ^ 35 → AreApart 0 (runs ++ run ∷ [])
  pushed-apart runs from to run apart window all some index low =
      subst (λ (front : List (Run T)). AreApart 0 (front ++ run ∷ [])) (take_all from runs all)
      (joined 0 run.first from runs (run ∷ []) apart (omega arith)
      (omega (arith, window.rises, window.within))
      (λ j d lt. omega (arith, window.before j d (omega arith) lt))
      (omega arith, some, index, low))
