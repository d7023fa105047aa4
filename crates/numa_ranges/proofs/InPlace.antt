-- Runs that are changed and joined where they stand.
use Rattle.std.proofs.Common.{◌≡◌, append_assoc, ℕ, suc, ◌+◌, ◌<◌, ◌≤◌, Bool, true, List, [], ◌∷◌}
use Rattle.std.proofs.Common.{◌++◌, length, map, take, drop, get_or, refl, sym, ap, subst, ◌∙◌}
use Rattle.std.proofs.Common.{arith, inl, inr}
use Rattle.std.proofs.Math.ListN.{set}
use Rattle.std.specs.Prelude.{All}
use Rattle.std.proofs.lemmas.Bool.{cases_Bool}
use Rattle.std.proofs.lemmas.List.{drop_all, drop_more, take_more_set, get_or-drop}
use Rattle.std.proofs.lemmas.Grind.{drop_more_same}
use Rattle.numa_ranges.specs.Runs.{page_at, in_pages, AreApart, AreMaximal, Continues, end_of}
use Rattle.numa_ranges.specs.Maps.{changed_page}
use Rattle.numa_ranges.specs.Edits.{IsInRange, IsRevalued, joins, run_and_next, maximal_runs}
use Rattle.numa_ranges.specs.Edits.{joined_from, with_new_value}
use Rattle.numa_ranges.specs.declared.run.Run.{Run}
use Rattle.numa_ranges.proofs.Apart.{apart-bounds}
use Rattle.numa_ranges.proofs.Joined.{not-joins, joins-continues, joined-still}

module _ {T : Type 0} where
  pub next-run : (runs whole : List (Run T)) (i : ℕ) (run : Run T) → i < length runs
      → drop i runs ≡ drop i whole → run ≡ get_or runs i run → drop i whole ≡ run
      ∷ drop (i + 1) whole
  next-run runs whole i run within ahead is =
      sym ahead ∙ drop_more runs i run within ∙ ap (λ r. r ∷ drop (i + 1) runs) (sym is)
      ∙ ap (λ l. run ∷ l) (drop_more_same runs whole i ahead)

  pub revalued-is : (change : T → T) (Made : T → T → Type 0) (run made : Run T)
      → IsRevalued Made run made → ((value new : T) → Made value new → new ≡ change value)
      → made ≡ with_new_value change run
  revalued-is change Made run made is gives =
      λ i. record {
        first = is.first i;
        pages = is.pages i;
        index = is.index i;
        value =
            gives run.value made.value is.value i;
      }

  pub apart-revalued : (change : T → T) (from : ℕ) (runs : List (Run T)) → AreApart from runs
      → AreApart from (map (with_new_value change) runs)
  apart-revalued change from [] apart = apart
  apart-revalued change from (run ∷ runs) apart =
      (apart.0, apart.1, apart.2, apart-revalued change (end_of run) runs apart.3)

  pub in-range-revalued : (change : T → T) (runs : List (Run T)) → AreApart 0 runs
      → All IsInRange (map (with_new_value change) runs)
  in-range-revalued change runs apart k d l =
      let bounds = apart-bounds 0 (map (with_new_value change) runs) k d
      (apart-revalued change 0 runs apart) l in
      record { end = bounds.0; index = bounds.1 }

  pub page_at-revalued : (change : T → T) (runs : List (Run T)) (page : ℕ)
      → page_at (map (with_new_value change) runs) page ≡ changed_page change (page_at runs page)
  page_at-revalued change [] page = refl
  page_at-revalued change (run ∷ runs) page =
      elim (cases_Bool (in_pages run.first run.pages page)) [
        | inl here ↦ rw here refl
        | inr out ↦ rw out (page_at-revalued change runs page)
      ]

module _ {T : Type 0} (same : T → T → Bool) (exact : (a b : T) → same a b ≡ true → a ≡ b)
    (itself : (a : T) → same a a ≡ true) where
  pub step-joins : (front rest whole : List (Run T)) (last run : Run T)
      → front ++ joined_from same (run ∷ rest) last ≡ whole → Continues last run
      → front ++ joined_from same rest (run_and_next last run) ≡ whole
  step-joins front rest whole last run h goes =
      let e : joined_from same (run ∷ rest) last ≡ joined_from same rest (run_and_next last run) =
      rw (joins-continues same exact itself last run goes) refl in
      ap (λ l. front ++ l) (sym e) ∙ h

  pub step-closes : (runs rest whole : List (Run T)) (kept : ℕ) (last run : Run T)
      → kept < length runs → take kept runs ++ joined_from same (run ∷ rest) last ≡ whole
      → (Continues last run → ⊥) → take (kept + 1) (set runs kept last) ++ joined_from same rest run
      ≡ whole
  step-closes runs rest whole kept last run within h stops =
      let e : joined_from same (run ∷ rest) last ≡ last ∷ joined_from same rest run =
      rw (not-joins same exact itself last run stops) refl in
      ap (λ l. l ++ joined_from same rest run) (take_more_set runs kept last within)
      ∙ append_assoc (take kept runs) (last ∷ []) (joined_from same rest run)
      ∙ ap (λ l. take kept runs ++ l) (sym e) ∙ h

  -- the first run is open, and none is kept
  pub first-open : (runs : List (Run T)) (run : Run T) → 0 < length runs → run ≡ get_or runs 0 run
      → joined_from same (drop 1 runs) run ≡ maximal_runs same runs
  first-open [] run some is = absurd (omega arith)
  first-open (r ∷ runs) run some is = ap (joined_from same runs) is

  -- the open run is written, and what is behind it is cut off
  pub closed-last : (runs whole new cut : List (Run T)) (kept i : ℕ) (last : Run T)
      → kept < length runs → length whole ≤ i → new ≡ set runs kept last → cut ≡ take (kept + 1) new
      → take kept runs ++ joined_from same (drop i whole) last ≡ maximal_runs same whole
      → cut ≡ maximal_runs same whole
  closed-last runs whole new cut kept i last within past put taken so =
      let none : drop i whole ≡ [] = drop_all i whole past in
      taken ∙ (ap (take (kept + 1)) put
      ∙ (take_more_set runs kept last within
      ∙ (ap (λ l. take kept runs ++ joined_from same l last) (sym none) ∙ so)))

  -- a maximal list is joined already
  pub maximal-still : (runs : List (Run T)) → AreMaximal runs → maximal_runs same runs ≡ runs
  maximal-still [] maximal = refl
  maximal-still (run ∷ runs) maximal =
      joined-still same exact itself runs run maximal.0 maximal.1

  length-joined_from : (runs : List (Run T)) (run : Run T) → length (joined_from same runs run)
      ≤ suc (length runs)
  length-joined_from [] run = omega arith
  length-joined_from (next ∷ runs) run =
      elim (cases_Bool (joins same run next)) [
        | inl goes ↦ rw goes (omega (arith, length-joined_from runs (run_and_next run next)))
        | inr stops ↦ rw stops (omega (arith, length-joined_from runs next))
      ]

  pub length-joined : (runs : List (Run T)) → length (maximal_runs same runs) ≤ length runs
  length-joined [] = omega arith
  length-joined (run ∷ runs) = length-joined_from runs run

module _ {T : Type 0} where
  pub in-range-next : (whole rest : List (Run T)) (i : ℕ) (run : Run T) → All IsInRange whole
      → i < length whole → drop i whole ≡ run ∷ rest → IsInRange run
  in-range-next whole rest i run all within opens =
      let place : i + 0 ≡ i = omega arith in
      let here : get_or whole i run ≡ run =
      sym (get_or-drop i whole 0 run ∙ ap (λ k. get_or whole k run) place)
      ∙ ap (λ l. get_or l 0 run) opens in
      subst IsInRange here (all i run within)

  pub in-range-first : (run : Run T) (runs : List (Run T)) → All IsInRange (run ∷ runs)
      → IsInRange run
  in-range-first run runs all = all 0 run (omega arith)

  pub in-range-behind : (run : Run T) (runs : List (Run T)) → All IsInRange (run ∷ runs)
      → All IsInRange runs
  in-range-behind run runs all k d within = all (suc k) d (omega (arith, within))

  pub in-range-grown : (last run : Run T) → IsInRange last → IsInRange run → Continues last run
      → IsInRange (run_and_next last run)
  in-range-grown last run a b goes =
      record { end = omega (arith, b.end, goes.page); index = omega (arith, b.index, goes.index) }
