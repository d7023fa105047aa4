-- A span that is mapped between the runs.
use Rattle.std.proofs.Common.{◌≡◌, append_assoc, ℕ, zero, suc, ◌+◌, ◌-◌, ◌<◌, ◌≤◌, ◌^◌, min, max}
use Rattle.std.proofs.Common.{Bool, true, false, is_some, None, List, [], ◌∷◌, ◌++◌, length, take}
use Rattle.std.proofs.Common.{drop, get_or, refl, sym, ap, subst, ◌∙◌, arith, inl, inr}
use Rattle.std.specs.List.{AllWithin, slice_range, splice}
use Rattle.std.proofs.lemmas.Bool.{cases_lt}
use Rattle.std.proofs.lemmas.List.{drop_all, drop_more, drop-drop, take-append-drop}
use Rattle.numa_ranges.specs.Runs.{page_at, AreApart, AreMaximal, end_of}
use Rattle.numa_ranges.specs.Maps.{any_page, with_span}
use Rattle.numa_ranges.specs.Edits.{runs_with, Each, StartsAround, HasRoom, maximal_runs}
use Rattle.numa_ranges.specs.declared.run.Run.{Run}
use Rattle.numa_ranges.proofs.Apart.{in_pages-true, in_pages-below, in_pages-above, apart-from}
use Rattle.numa_ranges.proofs.Apart.{page_at-inside}
use Rattle.numa_ranges.proofs.Cut.{page_at-append}
use Rattle.numa_ranges.proofs.Joined.{LeftSeam, RightSeam, joined-before, joined-after}
use Rattle.numa_ranges.proofs.Window.{maximal-front, maximal-back, window-first, window-last}
use Rattle.numa_ranges.proofs.Window.{starts-behind}
use Rattle.numa_ranges.proofs.Pages.{any_page-true, any_page-false}

module _ {T : Type 0} where
  pub page_at-beside : (runs more : List (Run T)) (first page : ℕ)
      → Each (λ run. (0 < run.pages) × (end_of run ≤ first)) runs → first ≤ page
      → page_at (runs ++ more) page ≡ page_at more page
  page_at-beside [] more first page before low = refl
  page_at-beside (run ∷ runs) more first page before low =
      let ends : end_of run ≤ first = before.0.1 in
      rw (in_pages-above run.first run.pages page (omega arith))
      (page_at-beside runs more first page before.1 low)

  pub page_at-ahead : (runs : List (Run T)) (last page : ℕ)
      → Each (λ run. (0 < run.pages) × (last < run.first)) runs → page ≤ last
      → page_at runs page ≡ None
  page_at-ahead [] last page behind low = refl
  page_at-ahead (run ∷ runs) last page behind low =
      let starts : last < run.first = behind.0.1 in
      rw (in_pages-below run.first run.pages page (omega arith))
      (page_at-ahead runs last page behind.1 low)

  -- no page of a span between runs is mapped
  pub page_at-between : (place first last page : ℕ) (runs : List (Run T))
      → Each (λ run. (0 < run.pages) × (end_of run ≤ first)) (take place runs)
      → Each (λ run. (0 < run.pages) × (last < run.first)) (drop place runs) → first ≤ page
      → page ≤ last → page_at runs page ≡ None
  page_at-between place first last page runs before behind low high =
      ap (λ l. page_at l page) (sym (take-append-drop place runs))
      ∙ page_at-beside (take place runs) (drop place runs) first page before low
      ∙ page_at-ahead (drop place runs) last page behind high

  pub page_at-inserted : (place : ℕ) (run : Run T) (runs : List (Run T)) (page : ℕ)
      → Each (λ r. (0 < r.pages) × (end_of r ≤ run.first)) (take place runs)
      → page_at (runs_with place run runs) page ≡ with_span run.first run.pages run.index run.value
      (page_at runs) page
  page_at-inserted place run runs page before =
      elim (cases_lt page run.first) [
        | inl low ↦
            page_at-append (take place runs) (run ∷ drop place runs) (drop place runs) page
            (rw (in_pages-below run.first run.pages page low) refl)
            ∙ ap (λ l. page_at l page) (take-append-drop place runs)
            ∙ rw (in_pages-below run.first run.pages page low) refl
        | inr high ↦ elim (cases_lt page (end_of run)) [
          | inl here ↦ page_at-beside (take place runs) (run ∷ drop place runs) run.first page
              before high ∙ rw (in_pages-true run.first run.pages page high here) refl
          | inr past ↦
              page_at-append (take place runs) (run ∷ drop place runs) (drop place runs) page
              (rw (in_pages-above run.first run.pages page past) refl)
              ∙ ap (λ l. page_at l page) (take-append-drop place runs)
              ∙ rw (in_pages-above run.first run.pages page past) refl
        ]
      ]

  apart-ahead : (from low : ℕ) (runs : List (Run T)) → from ≤ 2 ^ 35 → AreApart low runs
      → Each (λ r. (0 < r.pages) × (from < r.first + 1)) runs → AreApart from runs
  apart-ahead from low [] top apart behind = top
  apart-ahead from low (run ∷ runs) top apart behind =
      let starts : from < run.first + 1 = behind.0.1 in
      (omega arith, apart.1, apart.2, apart.3)

  pub apart-inserted : (from place : ℕ) (run : Run T) (runs : List (Run T)) → AreApart from runs
      → from ≤ run.first → 0 < run.pages → end_of run ≤ 2 ^ 35 → run.index + run.pages ≤ 2 ^ 48
      → Each (λ r. (0 < r.pages) × (end_of r ≤ run.first)) (take place runs)
      → Each (λ r. (0 < r.pages) × (end_of run < r.first + 1)) (drop place runs)
      → AreApart from (runs_with place run runs)
  apart-inserted from zero run runs apart low some top index before behind =
      (low, some, index, apart-ahead (end_of run) from runs top apart behind)
  apart-inserted from (suc place) run [] apart low some top index before behind =
      (low, some, index, top)
  apart-inserted from (suc place) run (r ∷ runs) apart low some top index before behind =
      let ends : end_of r ≤ run.first = before.0.1 in (
        apart.0,
        apart.1,
        apart.2,
        apart-inserted (end_of r) place run runs apart.3 ends some top
            index before.1 behind,
      )

  -- where the last of the runs before a place ends, all of them do
  pub ends-up-to : (from : ℕ) (runs : List (Run T)) (place first : ℕ) (d : Run T)
      → AreApart from runs → place < length runs → end_of (get_or runs place d) ≤ first
      → Each (λ run. (0 < run.pages) × (end_of run ≤ first)) (take (suc place) runs)
  ends-up-to from [] place first d apart l low = absurd (omega arith)
  ends-up-to from (run ∷ runs) zero first d apart l low = ((apart.1, low), tt)
  ends-up-to from (run ∷ runs) (suc place) first d apart l low = (
    (apart.1, omega (arith, apart-from (end_of run) runs place d apart.3 (omega arith))),
    ends-up-to (end_of run) runs place first d apart.3 (omega arith) low,
  )

  take-cut : (from place : ℕ) (runs : List (Run T)) → from ≤ place
      → take place runs ≡ take from runs ++ slice_range runs from place
  take-cut zero place runs le = ap (λ n. take n runs) (let n : place ≡ place - 0 = omega arith in n)
  take-cut (suc from) zero runs le = absurd (omega arith)
  take-cut (suc from) (suc place) [] le =
      sym (let none : (n : ℕ) → take n ([]) ≡ ([]) = λ (n : ℕ). nothing n in
      none (suc place - suc from))
    where
      nothing : (n : ℕ) → take n (let empty : List (Run T) = [] in empty) ≡ []
      nothing zero = refl
      nothing (suc n) = refl
  take-cut (suc from) (suc place) (run ∷ runs) le =
      let n : suc place - suc from ≡ place - from = omega arith in
      ap (λ l. run ∷ l) (take-cut from place runs (omega arith)
      ∙ ap (λ k. take from runs ++ take k (drop from runs)) (sym n))

  drop-cut : (place to : ℕ) (runs : List (Run T)) → place ≤ to
      → drop place runs ≡ slice_range runs place to ++ drop to runs
  drop-cut place to runs le =
      let far : place + (to - place) ≡ to = omega arith in
      sym (take-append-drop (to - place) (drop place runs))
      ∙ ap (λ l. slice_range runs place to ++ l) (drop-drop (to - place) place runs
      ∙ ap (λ n. drop n runs) far)

module _ {T : Type 0} (same : T → T → Bool) (exact : (a b : T) → same a b ≡ true → a ≡ b)
    (itself : (a : T) → same a a ≡ true) where
  left-seam : (d : Run T) (runs more : List (Run T)) (place : ℕ) → AreMaximal runs
      → place ≤ length runs → LeftSeam same exact itself (take (place - 1) runs)
      (slice_range runs (place - 1) place ++ more)
  left-seam d runs more zero maximal within = inl refl
  left-seam d runs more (suc place) maximal within =
      let at : suc place - 1 ≡ place = omega arith in
      let opens : slice_range runs place (suc place) ≡ get_or runs place d
      ∷ slice_range runs (place + 1) (suc place) = window-first runs place (suc place) d
      (omega arith) within in
      let around : runs ≡ take place runs ++ get_or runs place d ∷ drop (place + 1) runs =
      sym (take-append-drop place runs)
      ∙ ap (λ l. take place runs ++ l) (drop_more runs place d (omega arith)) in
      rw at
      (inr (
        get_or runs place d,
        slice_range runs (place + 1) (suc place) ++ more,
        ap (λ l. l ++ more) opens,
        maximal-front (take place runs) (get_or runs place d)
            (drop (place + 1) runs) (subst AreMaximal around maximal),
      ))

  right-seam : (d : Run T) (runs more : List (Run T)) (place : ℕ) → AreMaximal runs
      → RightSeam same exact itself (more ++ slice_range runs place (min (length runs) (place + 1)))
      (drop (min (length runs) (place + 1)) runs)
  right-seam d runs more place maximal =
      elim (cases_lt place (length runs)) [
        | inr past ↦
            let top : min (length runs) (place + 1) ≡ length runs = omega arith in
            rw top (inl (drop_all (length runs) runs (omega arith)))
        | inl some ↦
            let top : min (length runs) (place + 1) ≡ place + 1 = omega arith in
            let back : place + 1 - 1 ≡ place = omega arith in
            let last = get_or runs place d in
            let cut : slice_range runs place (place + 1) ≡ slice_range runs place place ++ last
            ∷ [] = window-last runs place (place + 1) d (omega arith) (omega arith)
            ∙ ap (λ n. slice_range runs place n ++ get_or runs n d ∷ []) back in
            let split : runs ≡ take place runs ++ last ∷ drop (place + 1) runs =
            sym (take-append-drop place runs)
            ∙ ap (λ l. take place runs ++ l) (drop_more runs place d some) in
            rw top
            (inr (
              more ++ slice_range runs place place,
              last,
              ap (λ l. more ++ l) cut
                  ∙ sym (append_assoc more (slice_range runs place place) (last ∷ [])),
              maximal-back (take place runs) (last ∷ drop (place + 1) runs)
                  (subst AreMaximal split maximal),
            ))
      ]

  -- a run that is put in, joined, changes only its neighbours
  pub inserted-window : (run : Run T) (runs : List (Run T)) (place : ℕ) → AreMaximal runs
      → place ≤ length runs
      → splice runs (place - 1) (min (length runs) (place + 1))
      (maximal_runs same ((slice_range runs (place - 1) place ++ run ∷ [])
      ++ slice_range runs place (min (length runs) (place + 1)))) ≡ maximal_runs same
      (runs_with place run runs)
  inserted-window run runs place maximal within =
      let from = place - 1 in
      let to = min (length runs) (place + 1) in
      let M = (slice_range runs from place ++ run ∷ []) ++ slice_range runs place to in
      let after = drop to runs in
      let whole : runs_with place run runs ≡ take from runs ++ (M ++ after) =
      ap (λ l. l ++ run ∷ drop place runs) (take-cut from place runs (omega arith))
      ∙ ap (λ l. (take from runs ++ slice_range runs from place) ++ run ∷ l)
      (drop-cut place to runs (omega arith))
      ∙ simp append_assoc in
      let left : LeftSeam same exact itself (take from runs) (M ++ after) =
      subst (λ (l : List (Run T)). LeftSeam same exact itself (take from runs) l)
      (simp append_assoc) (left-seam run runs (run ∷ (slice_range runs place to ++ after)) place
      maximal within) in
      sym (ap (maximal_runs same) whole
      ∙ joined-before same exact itself (take from runs) (M ++ after) left
      ∙ ap (λ l. take from runs ++ l)
      (joined-after same exact itself M after
      (right-seam run runs (slice_range runs from place ++ run ∷ []) place maximal)))

module _ {T : Type 0} where
  pub room-none : (runs : List (Run T)) (place first last : ℕ) → AreApart 0 runs → AreMaximal runs
      → place ≡ 0 → StartsAround runs place last → HasRoom runs 0 first last
  room-none runs place first last apart maximal is parts =
      record {
        within = omega arith;
        apart = apart;
        maximal = maximal;
        before = tt;
        behind =
            starts-behind 0 runs 0 last apart
            (subst (λ n. AllWithin (λ run. last < run.first) runs n (length runs)) is parts.1);
      }

  pub room-some : (runs : List (Run T)) (place first last : ℕ) (run : Run T) → AreApart 0 runs
      → AreMaximal runs → place ≤ length runs → StartsAround runs place last → (place ≡ 0 → ⊥)
      → run ≡ get_or runs (place - 1) run → end_of run ≤ first → HasRoom runs place first last
  room-some runs place first last run apart maximal within parts some is low =
      let n : suc (place - 1) ≡ place = omega arith in
      let ends : end_of (get_or runs (place - 1) run) ≤ first =
      subst (λ (r : Run T). end_of r ≤ first) is low in
      record {
        within = within;
        apart = apart;
        maximal = maximal;
        before = subst (λ (k : ℕ). Each (λ r. (0 < r.pages) × (end_of r ≤ first)) (take k runs)) n
            (ends-up-to 0 runs (place - 1) first run apart (omega arith) ends);
        behind = starts-behind 0 runs place last apart parts.1;
      }

  pub room-free : (runs : List (Run T)) (place first last pages : ℕ) → HasRoom runs place first last
      → last ≡ first + (pages - 1) → 0 < pages → any_page (λ page. is_some (page_at runs page))
      first pages ≡ false
  room-free runs place first last pages room is some =
      any_page-false (λ page. is_some (page_at runs page)) first pages
      (λ page low high.
      ap is_some (page_at-between place first last page runs room.before room.behind low
      (omega arith)))

  pub room-taken : (runs : List (Run T)) (place first pages : ℕ) (run : Run T) → AreApart 0 runs
      → place ≤ length runs → StartsAround runs place (first + (pages - 1)) → 0 < pages
      → (place ≡ 0 → ⊥) → run ≡ get_or runs (place - 1) run → first < end_of run → 0 < run.pages
      → any_page (λ page. is_some (page_at runs page)) first pages ≡ true
  room-taken runs place first pages run apart within parts some there is high full =
      let low : (get_or runs (place - 1) run).first ≤ first + (pages - 1) =
      parts.0 (place - 1) run (omega arith) (omega arith) in
      let low' : run.first ≤ first + (pages - 1) =
      subst (λ (r : Run T). r.first ≤ first + (pages - 1)) (sym is) low in
      let page = max first run.first in
      any_page-true (λ page. is_some (page_at runs page)) first pages page (omega arith)
      (omega arith)
      (ap is_some (page_at-inside 0 runs (place - 1) page run apart (omega arith) is
      (omega arith) (omega arith)))
