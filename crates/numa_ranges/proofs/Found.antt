-- How a window is found by two searches, and how it carries over to runs with the same pages.
use Rattle.std.proofs.Common.{◌≡◌, ℕ, ◌<◌, ◌≤◌, List, length, get_or, ap, arith, le_of_eq, inl, inr}
use Rattle.std.specs.List.{AllWithin}
use Rattle.std.proofs.lemmas.Bool.{cases_lt}
use Rattle.numa_ranges.specs.Runs.{end_of, AreApart}
use Rattle.numa_ranges.specs.Windows.{IsWindow}
use Rattle.numa_ranges.specs.declared.run.Run.{Run}
use Rattle.numa_ranges.proofs.Moves.{any-run, ends-rising, each-some}

module _ {T : Type 0} where
  -- later runs end later
  pub ends-rise : (runs : List (Run T)) → AreApart 0 runs → (i j : ℕ) (d : Run T) → i ≤ j
      → j < length runs → end_of (get_or runs i d) ≤ end_of (get_or runs j d)
  ends-rise runs apart i j d le l =
      elim (cases_lt i j) [
        | inl lt ↦ omega (arith, ends-rising 0 runs i j d apart lt l, each-some 0 runs j d apart l)
        | inr ge ↦ let same : i ≡ j = omega arith in
            le_of_eq (ap (λ n. end_of (get_or runs n d)) same)
      ]

  -- the places of two searches, by where runs end and where they begin, are a window
  pub window-found : (runs : List (Run T)) (first end from to : ℕ) → first ≤ end
      → from ≤ length runs → to ≤ length runs
      → AllWithin (λ run. end_of run < first) runs 0 from
      → AllWithin (λ run. first ≤ end_of run) runs from (length runs)
      → AllWithin (λ run. run.first ≤ end) runs 0 to → AllWithin (λ run. end < run.first) runs to
      (length runs) → IsWindow runs first end from to
  window-found runs first end from to le within_from within_to before reaching beginning behind =
      record {
        rises = elim (cases_lt to from) [
          | inr rises ↦ rises
          | inl falls ↦
              let d = any-run runs (omega arith) in
              absurd (omega (
                arith,
                before to d (omega arith) falls,
                behind to d (omega arith) (omega arith),
              ))
        ];
        within = within_to;
        before = before;
        reaching = reaching;
        beginning = beginning;
        behind = behind;
      }

-- runs that begin and end where those of another list do have the same windows
module _ {A B : Type 0} (xs : List (Run A)) (ys : List (Run B)) (size : length ys ≡ length xs)
    (firsts : (k : ℕ) (d : Run A) (e : Run B) → k < length xs
    → (get_or ys k e).first ≡ (get_or xs k d).first) (ends : (k : ℕ) (d : Run A) (e : Run B)
    → k < length xs → end_of (get_or ys k e) ≡ end_of (get_or xs k d)) where
  pub window-carried : (first end from to : ℕ) → IsWindow xs first end from to
      → IsWindow ys first end from to
  window-carried first end from to window = record {
    rises = window.rises;
    within = omega (arith, window.within);
    before = λ k e a b. let l : k < length xs = omega (arith, window.rises, window.within) in
        let d = any-run xs (omega arith) in omega (arith, window.before k d a b, ends k d e l);
    reaching = λ k e a b. let l : k < length xs = omega arith in let d = any-run xs (omega arith) in
        omega (arith, window.reaching k d a l, ends k d e l);
    beginning = λ k e a b. let l : k < length xs = omega (arith, window.within) in let d =
        any-run xs (omega arith) in omega (arith, window.beginning k d a b, firsts k d e l);
    behind = λ k e a b. let l : k < length xs = omega arith in let d = any-run xs (omega arith) in
        omega (arith, window.behind k d a l, firsts k d e l);
  }
