-- An edit changes only a window of the runs, also after joining.
use Rattle.std.proofs.Common.{◌≡◌, append-nil, ℕ, zero, suc, ◌+◌, ◌-◌, ◌<◌, ◌≤◌, min, max, Bool}
use Rattle.std.proofs.Common.{true, Option, Some, None, List, [], ◌∷◌, ◌++◌, length, length-append}
use Rattle.std.proofs.Common.{length-drop, take, drop, get_or, refl, sym, ap, subst, ◌∙◌, arith}
use Rattle.std.proofs.Common.{inl, inr, append_assoc}
use Rattle.std.specs.Prelude.{if◌then◌else◌}
use Rattle.std.specs.List.{AllWithin, slice_range, splice}
use Rattle.std.proofs.lemmas.Bool.{cases_lt, lt-ltb, le-ltb}
use Rattle.std.proofs.lemmas.List.{drop_all, take_more, drop_more, drop-drop, take-append-drop}
use Rattle.std.proofs.lemmas.List.{get_or-drop, length-take}
use Rattle.std.proofs.lemmas.List.Concat.{flat_map-append}
use Rattle.numa_ranges.specs.Runs.{AreApart, AreMaximal, NotContinued, end_of}
use Rattle.numa_ranges.specs.Edits.{Each, StartsAround, edit_of, parts, part_within, maximal_runs}
use Rattle.numa_ranges.specs.Edits.{part_before, part_from, MayBegin, MayEnd, IsAround}
use Rattle.numa_ranges.specs.declared.run.Run.{Run}
use Rattle.numa_ranges.proofs.Apart.{apart-from}
use Rattle.numa_ranges.proofs.Cut.{parts-below, parts-above}
use Rattle.numa_ranges.proofs.Joined.{LeftSeam, RightSeam, joined-before, joined-after}

module _ {T : Type 0} where
  -- a list is what stands before a window, the window, and what stands behind it
  pub around : (runs : List (Run T)) (from to : ℕ) → from ≤ to → runs ≡ take from runs
      ++ (slice_range runs from to ++ drop to runs)
  around runs from to le =
      let far : from + (to - from) ≡ to = omega arith in
      let behind : drop (to - from) (drop from runs) ≡ drop to runs =
      drop-drop (to - from) from runs ∙ ap (λ n. drop n runs) far in
      sym (take-append-drop from runs)
      ∙ ap (λ l. take from runs ++ l) (sym (take-append-drop (to - from) (drop from runs))
      ∙ ap (λ l. slice_range runs from to ++ l) behind)

  pub window-first : (runs : List (Run T)) (from to : ℕ) (d : Run T) → from < to → to ≤ length runs
      → slice_range runs from to ≡ get_or runs from d ∷ slice_range runs (from + 1) to
  window-first runs from to d some within =
      let n : to - from ≡ suc (to - (from + 1)) = omega arith in
      ap (λ k. take k (drop from runs)) n ∙ ap (λ l. take (suc (to - (from + 1))) l)
      (drop_more runs from d (omega arith))

  pub window-last : (runs : List (Run T)) (from to : ℕ) (d : Run T) → from < to → to ≤ length runs
      → slice_range runs from to ≡ slice_range runs from (to - 1) ++ get_or runs (to - 1) d ∷ []
  window-last runs from to d some within =
      let n : to - from ≡ to - 1 - from + 1 = omega arith in
      let place : from + (to - 1 - from) ≡ to - 1 = omega arith in
      ap (λ k. take k (drop from runs)) n
      ∙ take_more (drop from runs) (to - 1 - from) d (omega (arith, length-drop from runs))
      ∙ ap (λ x. slice_range runs from (to - 1) ++ x ∷ []) (get_or-drop from runs (to - 1 - from) d
      ∙ ap (λ k. get_or runs k d) place)

  pub maximal-front : (xs : List (Run T)) (run : Run T) (ys : List (Run T))
      → AreMaximal (xs ++ run ∷ ys) → AreMaximal (xs ++ run ∷ [])
  maximal-front [] run ys maximal = (tt, tt)
  maximal-front (x ∷ []) run ys maximal = (maximal.0, (tt, tt))
  maximal-front (x ∷ y ∷ xs) run ys maximal = (maximal.0, maximal-front (y ∷ xs) run ys maximal.1)

  pub maximal-back : (xs ys : List (Run T)) → AreMaximal (xs ++ ys) → AreMaximal ys
  maximal-back [] ys maximal = maximal
  maximal-back (x ∷ xs) ys maximal = maximal-back xs ys maximal.1

  -- a run that is cut at its end is continued, or continues, where it begins
  pub maximal-shortened : (xs : List (Run T)) (run : Run T) (ys : List (Run T)) (pages : ℕ)
      → AreMaximal (xs ++ run ∷ ys) → AreMaximal (xs ++ record {
        first = run.first;
        pages = pages;
        index = run.index;
        value = run.value;
      } ∷ [])
  maximal-shortened [] run ys pages maximal = (tt, tt)
  maximal-shortened (x ∷ []) run ys pages maximal = (
    λ k. maximal.0 (record { page = k.page; index = k.index; value = k.value }),
    (tt, tt),
  )
  maximal-shortened (x ∷ y ∷ xs) run ys pages maximal =
      (maximal.0, maximal-shortened (y ∷ xs) run ys pages maximal.1)

  -- a run that is cut at its beginning is continued where it ends
  pub not_continued-cut : (run cut : Run T) (after : List (Run T)) → end_of cut ≡ end_of run
      → cut.index + cut.pages ≡ run.index + run.pages → cut.value ≡ run.value
      → NotContinued run after → NotContinued cut after
  not_continued-cut run cut [] end index value stops = tt
  not_continued-cut run cut (next ∷ after) end index value stops =
      λ k.
      stops (record {
        page = omega (arith, k.page, end);
        index = omega (arith, k.index, index);
        value = k.value ∙ value;
      })

  -- the runs before the last that starts at a page or before it end there or before
  pub ends-before : (from : ℕ) (runs : List (Run T)) (place page : ℕ) (d : Run T)
      → AreApart from runs → place < length runs → (get_or runs place d).first ≤ page
      → Each (λ run. (0 < run.pages) × (end_of run ≤ page)) (take place runs)
  ends-before from [] place page d apart l low = absurd (omega arith)
  ends-before from (run ∷ runs) zero page d apart l low = tt
  ends-before from (run ∷ runs) (suc place) page d apart l low = (
    (apart.1, omega (arith, apart-from (end_of run) runs place d apart.3 (omega arith))),
    ends-before (end_of run) runs place page d apart.3 (omega arith) low,
  )

  pub starts-behind : (from : ℕ) (runs : List (Run T)) (place page : ℕ) → AreApart from runs
      → AllWithin (λ run. page < run.first) runs place (length runs)
      → Each (λ run. (0 < run.pages) × (page < run.first)) (drop place runs)
  starts-behind from [] zero page apart later = tt
  starts-behind from [] (suc place) page apart later = tt
  starts-behind from (run ∷ runs) zero page apart later = (
    (apart.1, later 0 run (omega arith) (omega arith)),
    starts-behind (end_of run) runs zero page
        apart.3 (λ k d low high. later (suc k) d (omega arith) (omega arith)),
  )
  starts-behind from (run ∷ runs) (suc place) page apart later =
      starts-behind (end_of run) runs place page apart.3
      (λ k d low high. later (suc k) d (omega arith) (omega arith))

  pub edited-below : (first end : ℕ) (edit : T → Option T) (runs : List (Run T)) → first ≤ end
      → Each (λ run. (0 < run.pages) × (end_of run ≤ first)) runs → edit_of first end edit runs
      ≡ runs
  edited-below first end edit [] le below = refl
  edited-below first end edit (run ∷ runs) le below =
      ap (λ l. l ++ edit_of first end edit runs)
      (parts-below first end edit run le below.0.0 below.0.1)
      ∙ ap (λ l. run ∷ l) (edited-below first end edit runs le below.1)

  pub edited-above : (first end : ℕ) (edit : T → Option T) (runs : List (Run T)) → first ≤ end
      → Each (λ run. (0 < run.pages) × (end < run.first)) runs → edit_of first end edit runs ≡ runs
  edited-above first end edit [] le above = refl
  edited-above first end edit (run ∷ runs) le above =
      let here : end < run.first = above.0.1 in
      ap (λ l. l ++ edit_of first end edit runs)
      (parts-above first end edit run le above.0.0 (omega arith))
      ∙ ap (λ l. run ∷ l) (edited-above first end edit runs le above.1)

  pub Each-take-le : (P : Run T → Type 0) (m n : ℕ) (runs : List (Run T)) → m ≤ n
      → Each P (take n runs) → Each P (take m runs)
  Each-take-le P zero n runs le all = tt
  Each-take-le P (suc m) zero runs le all = absurd (omega arith)
  Each-take-le P (suc m) (suc n) [] le all = tt
  Each-take-le P (suc m) (suc n) (run ∷ runs) le all =
      (all.0, Each-take-le P m n runs (omega arith) all.1)

  pub length-splice : (runs new : List (Run T)) (from to : ℕ) → from ≤ to → to ≤ length runs
      → length (splice runs from to new) ≡ length runs - (to - from) + length new
  length-splice runs new from to le within =
      simp (length-append, length-append, length-take, length-drop) (omega arith)

  pub each-at : (P : Run T → Type 0) (runs : List (Run T)) (n k : ℕ) (d : Run T)
      → Each P (take n runs) → k < n → k < length runs → P (get_or runs k d)
  each-at P [] n k d all l within = absurd (omega arith)
  each-at P (run ∷ runs) zero k d all l within = absurd (omega arith)
  each-at P (run ∷ runs) (suc n) zero d all l within = all.0
  each-at P (run ∷ runs) (suc n) (suc k) d all l within = each-at P runs n k d all.1 (omega arith)
      (omega arith)

  -- a later page has as many runs up to it, or more
  pub places-rise : (runs : List (Run T)) (lo hi first end : ℕ) → first ≤ end → lo ≤ length runs
      → StartsAround runs lo first → StartsAround runs hi end → lo ≤ hi
  places-rise [] lo hi first end le within low high = omega arith
  places-rise (run ∷ runs) lo hi first end le within low high =
      elim (cases_lt hi lo) [
        | inr rises ↦ rises
        | inl falls ↦
            let a : (get_or (run ∷ runs) hi run).first ≤ first = low.0 hi run (omega arith) falls in
            let b : end < (get_or (run ∷ runs) hi run).first =
            high.1 hi run (omega arith) (omega arith) in
            absurd (omega arith)
      ]

module _ {T : Type 0} (same : T → T → Bool) (exact : (a b : T) → same a b ≡ true → a ≡ b)
    (itself : (a : T) → same a a ≡ true) where
  left-wide : (run : Run T) (runs : List (Run T)) (lo first end to : ℕ) (edit : T → Option T)
      → AreApart 0 (run ∷ runs) → AreMaximal (run ∷ runs) → first ≤ end → lo ≤ length (run ∷ runs)
      → StartsAround (run ∷ runs) lo first → lo ≤ to → to ≤ length (run ∷ runs)
      → Each (λ r. (0 < r.pages) × (end_of r ≤ first)) (take (lo - 2) (run ∷ runs))
      × LeftSeam same exact itself (take (lo - 2) (run ∷ runs))
      (edit_of first end edit (slice_range (run ∷ runs) (lo - 2) to))
  left-wide run runs lo first end to edit apart maximal le within low behind top =
      let all = run ∷ runs in
      elim (cases_lt lo 2) [
        | inl few ↦
            let none : lo - 2 ≡ 0 = omega arith in
            rw none (tt, inl refl)
        | inr more ↦
            let from = lo - 2 in
            let at : (get_or all (lo - 1) run).first ≤ first =
            low.0 (lo - 1) run (omega arith) (omega arith) in
            let ends = ends-before 0 all (lo - 1) first run apart (omega arith) at in
            let before = get_or all from run in
            let here = each-at (λ r. (0 < r.pages) × (end_of r ≤ first)) all (lo - 1) from run ends
            (omega arith) (omega arith) in
            let whole : parts first end edit before ≡ before ∷ [] =
            parts-below first end edit before le here.0 here.1 in
            let opens : edit_of first end edit (slice_range all from to) ≡ before
            ∷ edit_of first end edit (slice_range all (from + 1) to) =
            ap (edit_of first end edit) (window-first all from to run (omega arith) top)
            ∙ ap (λ l. l ++ edit_of first end edit (slice_range all (from + 1) to)) whole in
            let around : all ≡ take from all ++ before ∷ drop (from + 1) all =
            sym (take-append-drop from all)
            ∙ ap (λ l. take from all ++ l) (drop_more all from run (omega arith)) in (
              Each-take-le (λ r. (0 < r.pages) × (end_of r ≤ first)) from (lo - 1) all (omega arith)
                  ends,
              inr (
                before,
                edit_of first end edit (slice_range all (from + 1) to),
                opens,
                maximal-front (take from all) before (drop (from + 1) all)
                    (subst AreMaximal around maximal),
              ),
            )
      ]

  left-near : (run : Run T) (runs : List (Run T)) (lo first end to : ℕ) (edit : T → Option T)
      → AreApart 0 (run ∷ runs) → AreMaximal (run ∷ runs) → lo ≤ length (run ∷ runs) → 0 < lo
      → (get_or (run ∷ runs) (lo - 1) run).first < first → lo ≤ to → to ≤ length (run ∷ runs)
      → Each (λ r. (0 < r.pages) × (end_of r ≤ first)) (take (lo - 1) (run ∷ runs))
      × LeftSeam same exact itself (take (lo - 1) (run ∷ runs))
      (edit_of first end edit (slice_range (run ∷ runs) (lo - 1) to))
  left-near run runs lo first end to edit apart maximal within some starts behind top =
      let all = run ∷ runs in
      let from = lo - 1 in
      let before = get_or all from run in
      let pages = min before.pages (first - before.first) in
      let cut : Run T = record {
        first = before.first;
        pages = pages;
        index = before.index;
        value = before.value;
      } in
      let tail = slice_range all (from + 1) to in
      let rest = part_within first end edit before ++ part_from end before in
      let head : parts first end edit before ≡ cut ∷ rest =
      ap (λ b. (if b then cut ∷ [] else []) ++ rest) (lt-ltb before.first first starts) in
      let opens : edit_of first end edit (slice_range all from to) ≡ cut
      ∷ (rest ++ edit_of first end edit tail) =
      ap (edit_of first end edit) (window-first all from to run (omega arith) top)
      ∙ ap (λ l. l ++ edit_of first end edit tail) head in
      let around : all ≡ take from all ++ before ∷ drop (from + 1) all =
      sym (take-append-drop from all)
      ∙ ap (λ l. take from all ++ l) (drop_more all from run (omega arith)) in (
        ends-before 0 all from first run apart (omega arith) (omega (arith, starts)),
        inr (
          cut,
          rest ++ edit_of first end edit tail,
          opens,
          maximal-shortened (take from all) before (drop (from + 1) all) pages
              (subst AreMaximal around maximal),
        ),
      )

  right-wide : (run : Run T) (runs : List (Run T)) (hi first end from : ℕ) (edit : T → Option T)
      → AreApart 0 (run ∷ runs) → AreMaximal (run ∷ runs) → first ≤ end
      → StartsAround (run ∷ runs) hi end → from ≤ hi
      → Each (λ r. (0 < r.pages) × (end < r.first))
      (drop (min (length (run ∷ runs)) (hi + 1)) (run ∷ runs))
      × RightSeam same exact itself
      (edit_of first end edit (slice_range (run ∷ runs) from (min (length (run ∷ runs)) (hi + 1))))
      (drop (min (length (run ∷ runs)) (hi + 1)) (run ∷ runs))
  right-wide run runs hi first end from edit apart maximal le high below =
      let all = run ∷ runs in
      elim (cases_lt hi (length all)) [
        | inr past ↦
            let top : min (length all) (hi + 1) ≡ length all = omega arith in
            let none : drop (length all) all ≡ [] = drop_all (length all) all (omega arith) in
            rw top (subst (Each (λ r. (0 < r.pages) × (end < r.first))) (sym none) tt, inl none)
        | inl some ↦
            let top : min (length all) (hi + 1) ≡ hi + 1 = omega arith in
            let last = get_or all hi run in
            let starts = starts-behind 0 all hi end apart high.1 in
            let opens : drop hi all ≡ last ∷ drop (hi + 1) all = drop_more all hi run some in
            let here = subst (Each (λ r. (0 < r.pages) × (end < r.first))) opens starts in
            let late : end < last.first = here.0.1 in
            let whole : parts first end edit last ≡ last ∷ [] =
            parts-above first end edit last le here.0.0 (omega arith) in
            let back : hi + 1 - 1 ≡ hi = omega arith in
            let cut : slice_range all from (hi + 1) ≡ slice_range all from hi ++ last ∷ [] =
            window-last all from (hi + 1) run (omega arith) (omega arith)
            ∙ ap (λ n. slice_range all from n ++ get_or all n run ∷ []) back in
            let closes : edit_of first end edit (slice_range all from (hi + 1)) ≡ edit_of first end
            edit (slice_range all from hi) ++ last ∷ [] =
            ap (edit_of first end edit) cut ∙ flat_map-append (parts first end edit)
            (slice_range all from hi) (last ∷ [])
            ∙ ap (λ l. edit_of first end edit (slice_range all from hi) ++ l)
            (append-nil _ ∙ whole) in
            let split : all ≡ take hi all ++ last ∷ drop (hi + 1) all =
            sym (take-append-drop hi all) ∙ ap (λ l. take hi all ++ l) opens in
            rw top (
              here.1,
              inr (
                edit_of first end edit (slice_range all from hi),
                last,
                closes,
                maximal-back (take hi all) (last ∷ drop (hi + 1) all)
                    (subst AreMaximal split maximal),
              ),
            )
      ]

  right-near : (run : Run T) (runs : List (Run T)) (hi first end from : ℕ) (edit : T → Option T)
      → AreApart 0 (run ∷ runs) → AreMaximal (run ∷ runs) → hi ≤ length (run ∷ runs)
      → StartsAround (run ∷ runs) hi end → 0 < hi
      → end < end_of (get_or (run ∷ runs) (hi - 1) run) → from < hi
      → Each (λ r. (0 < r.pages) × (end < r.first)) (drop hi (run ∷ runs))
      × RightSeam same exact itself
      (edit_of first end edit (slice_range (run ∷ runs) from hi)) (drop hi (run ∷ runs))
  right-near run runs hi first end from edit apart maximal within high some ends below =
      let all = run ∷ runs in
      let place = hi - 1 in
      let next : place + 1 ≡ hi = omega arith in
      let last = get_or all place run in
      let start = max end last.first in
      let low : last.first ≤ end = high.0 place run (omega arith) (omega arith) in
      let cut : Run T = record {
        first = start;
        pages = end_of last - start;
        index = last.index + (start - last.first);
        value = last.value;
      } in
      let front = edit_of first end edit (slice_range all from place) in
      let more = part_before first last ++ part_within first end edit last in
      let closing : parts first end edit last ≡ more ++ cut ∷ [] =
      ap (λ b. part_before first last ++ (part_within first end edit last
      ++ (if b then cut ∷ [] else []))) (lt-ltb end (end_of last) ends)
      ∙ sym (append_assoc (part_before first last) (part_within first end edit last) (cut ∷ [])) in
      let closes : edit_of first end edit (slice_range all from hi) ≡ (front ++ more) ++ cut ∷ [] =
      ap (edit_of first end edit) (window-last all from hi run below within)
      ∙ flat_map-append (parts first end edit) (slice_range all from place) (last ∷ [])
      ∙ ap (λ l. front ++ l) (append-nil _ ∙ closing)
      ∙ sym (append_assoc front more (cut ∷ [])) in
      let opens : drop place all ≡ last ∷ drop hi all =
      drop_more all place run (omega arith) ∙ ap (λ n. last ∷ drop n all) next in
      let split : all ≡ take place all ++ last ∷ drop hi all =
      sym (take-append-drop place all) ∙ ap (λ l. take place all ++ l) opens in
      let stands = maximal-back (take place all) (last ∷ drop hi all)
      (subst AreMaximal split maximal) in (
        starts-behind 0 all hi end apart high.1,
        inr (
          front ++ more,
          cut,
          closes,
          (
            not_continued-cut last cut (drop hi all) (omega (arith, ends, low))
                (omega (arith, ends, low)) refl stands.0,
            stands.1,
          ),
        ),
      )

  left-seam : (run : Run T) (runs : List (Run T)) (lo first end from to : ℕ) (edit : T → Option T)
      → AreApart 0 (run ∷ runs) → AreMaximal (run ∷ runs) → first ≤ end → lo ≤ length (run ∷ runs)
      → StartsAround (run ∷ runs) lo first → lo ≤ to → to ≤ length (run ∷ runs)
      → MayBegin (run ∷ runs) lo first from
      → Each (λ r. (0 < r.pages) × (end_of r ≤ first)) (take from (run ∷ runs))
      × LeftSeam same exact itself (take from (run ∷ runs))
      (edit_of first end edit (slice_range (run ∷ runs) from to))
  left-seam run runs lo first end from to edit apart maximal le within low behind top begins =
      elim begins [
        | inl wide ↦
            rw wide
            (left-wide run runs lo first end to edit apart maximal le within low behind top)
        | inr near ↦
            rw near.0
            (left-near run runs lo first end to edit apart maximal within near.1 (near.2 run)
            behind top)
      ]

  right-seam : (run : Run T) (runs : List (Run T)) (hi first end from to : ℕ)
      (edit : T → Option T) → AreApart 0 (run ∷ runs) → AreMaximal (run ∷ runs) → first ≤ end
      → hi ≤ length (run ∷ runs) → StartsAround (run ∷ runs) hi end → from ≤ hi - 1
      → MayEnd (run ∷ runs) hi end to
      → Each (λ r. (0 < r.pages) × (end < r.first)) (drop to (run ∷ runs))
      × RightSeam same exact itself
      (edit_of first end edit (slice_range (run ∷ runs) from to)) (drop to (run ∷ runs))
  right-seam run runs hi first end from to edit apart maximal le within high below ends =
      elim ends [
        | inl wide ↦
            rw wide
            (right-wide run runs hi first end from edit apart maximal le high
            (omega (arith, below)))
        | inr near ↦
            rw near.0
            (right-near run runs hi first end from edit apart maximal within high near.1
            (near.2 run) (omega (arith, below, near.1)))
      ]

  -- an edit of a span, joined, changes only a window of the runs
  pub edited-window : (runs : List (Run T)) (lo hi first end from to : ℕ) (edit : T → Option T)
      → AreApart 0 runs → AreMaximal runs → first ≤ end → lo ≤ length runs
      → StartsAround runs lo first → hi ≤ length runs → StartsAround runs hi end
      → MayBegin runs lo first from → MayEnd runs hi end to → splice runs from to
      (maximal_runs same (edit_of first end edit (slice_range runs from to))) ≡ maximal_runs same
      (edit_of first end edit runs)
  edited-window [] lo hi first end from to edit apart maximal le within low within' high begins
      ends =
      let a : from ≡ 0 = elim begins
      [ inl wide ↦ omega (arith, wide, within) | inr near ↦ omega (arith, near.0, within) ] in
      let b : to ≡ 0 = elim ends
      [ inl wide ↦ omega (arith, wide) | inr near ↦ omega (arith, near.0, within') ] in
      rw (a, b) refl
  edited-window (run ∷ runs) lo hi first end from to edit apart maximal le within low within' high
      begins ends =
      let all = run ∷ runs in
      let rises : lo ≤ hi = places-rise all lo hi first end le within low high in
      let below : from ≤ lo - 1 = elim begins
      [ inl wide ↦ omega (arith, wide) | inr near ↦ omega (arith, near.0) ] in
      let bounds : (hi ≤ to) × (to ≤ length all) = elim ends [
        | inl wide ↦ (omega (arith, wide, within'), omega (arith, wide))
        | inr near ↦ (omega (arith, near.0), omega (arith, near.0, within'))
      ] in
      let left = left-seam run runs lo first end from to edit apart maximal le within low
      (omega (arith, rises, bounds.0)) bounds.1 begins in
      let right = right-seam run runs hi first end from to edit apart maximal le within' high
      (omega (arith, rises, below)) ends in
      let W = edit_of first end edit (slice_range all from to) in
      let whole : edit_of first end edit all ≡ take from all ++ (W ++ drop to all) =
      ap (edit_of first end edit) (around all from to (omega (arith, rises, below, bounds.0)))
      ∙ flat_map-append (parts first end edit) (take from all)
      (slice_range all from to ++ drop to all)
      ∙ ap (λ l. edit_of first end edit (take from all) ++ l)
      (flat_map-append (parts first end edit) (slice_range all from to) (drop to all))
      ∙ ap (λ l. l ++ (W ++ edit_of first end edit (drop to all)))
      (edited-below first end edit (take from all) le left.0)
      ∙ ap (λ l. take from all ++ (W ++ l))
      (edited-above first end edit (drop to all) le right.0) in
      let seam : LeftSeam same exact itself (take from all) (W ++ drop to all) = elim left.1 [
        | inl none ↦ inl none
        | inr h ↦ inr (h.0, h.1 ++ drop to all, ap (λ l. l ++ drop to all) h.2, h.3)
      ] in
      sym (ap (maximal_runs same) whole
      ∙ joined-before same exact itself (take from all) (W ++ drop to all) seam
      ∙ ap (λ l. take from all ++ l) (joined-after same exact itself W (drop to all) right.1))

  -- what an edit makes of all runs, where it changes a window
  pub edited-around : (runs : List (Run T)) (place first end from to : ℕ) (edit : T → Option T)
      → AreApart 0 runs → AreMaximal runs → first ≤ end → place ≤ length runs
      → StartsAround runs place first → IsAround runs place first end from to
      → splice runs from to (maximal_runs same (edit_of first end edit (slice_range runs from to)))
      ≡ maximal_runs same (edit_of first end edit runs)
  edited-around runs place first end from to edit apart maximal le within parts around =
      edited-window runs place around.count first end from to edit apart maximal le within parts
      around.within around.parts around.begins around.ends

module _ {T : Type 0} where
  pub around-rises : (runs : List (Run T)) (place first end from to : ℕ) → first ≤ end
      → place ≤ length runs → StartsAround runs place first
      → IsAround runs place first end from to → (from ≤ to) × (to ≤ length runs)
  around-rises runs place first end from to le within parts around =
      let rises = places-rise runs place around.count first end le within parts around.parts in
      let below : from ≤ place = elim around.begins
      [ inl wide ↦ omega (arith, wide) | inr near ↦ omega (arith, near.0) ] in
      elim around.ends [
        | inl wide ↦
            (omega (arith, wide, rises, below, within), omega (arith, wide))
        | inr near ↦ (omega (arith, near.0, rises, below), omega (arith, near.0, around.within))
      ]

module _ {T : Type 0} where
  -- the part of a run inside a span, where the edit gives a value and where it gives none
  pub within-some : (first end start stop : ℕ) (edit : T → Option T) (run : Run T) (value : T)
      → start ≡ max first run.first → stop ≡ min end (end_of run) → start < stop
      → edit run.value ≡ Some value
      → part_within first end edit run ≡ record {
        first = start;
        pages = stop - start;
        index =
            run.index + (start - run.first);
        value = value;
      } ∷ []
  within-some first end start stop edit run value a b some gives =
      let c : max first run.first < min end (end_of run) = omega arith in
      rw (a, b, lt-ltb _ _ c, gives) refl

  pub within-none : (first end : ℕ) (edit : T → Option T) (run : Run T) → edit run.value ≡ None
      → part_within first end edit run ≡ []
  within-none first end edit run gives =
      elim (cases_lt (max first run.first) (min end (end_of run))) [
        | inl some ↦ rw (lt-ltb _ _ some, gives) refl
        | inr none ↦ rw (le-ltb _ _ none) refl
      ]

  pub edited-more : (first end : ℕ) (edit : T → Option T) (runs : List (Run T)) (i : ℕ)
      (run : Run T) → i < length runs → run ≡ get_or runs i run
      → edit_of first end edit (take (i + 1) runs) ≡ edit_of first end edit (take i runs)
      ++ parts first end edit run
  edited-more first end edit runs i run within is =
      ap (edit_of first end edit) (take_more runs i run within)
      ∙ flat_map-append (parts first end edit) (take i runs) (get_or runs i run ∷ [])
      ∙ ap (λ l. edit_of first end edit (take i runs) ++ l)
      (append-nil _ ∙ ap (parts first end edit) (sym is))
