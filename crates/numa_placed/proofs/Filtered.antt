-- Pages from 2^35 on are in no run.
use Rattle.std.proofs.Common.{◌≡◌, ℕ, ◌<◌, ◌≤◌, ◌^◌, true, false, is_some}
use Rattle.std.proofs.Common.{None, List, [], ◌∷◌, refl, sym, ap, ◌∙◌, arith, inl, inr}
use Rattle.std.proofs.lemmas.Bool.{cases_Bool, cases_lt}
use Rattle.numa_ranges.specs.Runs.{page_at, in_pages, end_of, AreApart}
use Rattle.numa_ranges.specs.declared.run.Run.{Run}
use Rattle.numa_ranges.proofs.Apart.{apart-top}
use Rattle.numa_ranges.proofs.Laws.{inside}

-- a page from 2^35 on is in no run
module _ {T : Type 0} where
  pub page_at-far : (from : ℕ) (runs : List (Run T)) (page : ℕ) → AreApart from runs
      → 2 ^ 35 ≤ page → page_at runs page ≡ None
  page_at-far from [] page apart far = refl
  page_at-far from (run ∷ runs) page apart far =
      elim (cases_Bool (in_pages run.first run.pages page)) [
        | inl here ↦
            let ends = inside run.first run.pages page here in
            absurd (omega (arith, ends.1, apart-top (end_of run) runs apart.3))
        | inr out ↦ rw out (page_at-far (end_of run) runs page apart.3 far)
      ]

  -- so each mapped page is below
  pub mapped-below : (runs : List (Run T)) (page : ℕ) → AreApart 0 runs
      → is_some (page_at runs page) ≡ true → page < 2 ^ 35
  mapped-below runs page apart some =
      elim (cases_lt page (2 ^ 35)) [
        | inl near ↦ near
        | inr far ↦
            let odd : true ≡ false = sym some ∙ ap is_some (page_at-far 0 runs page apart far) in
            absurd (cc)
      ]
