-- Pages that keep frames and had to go, counted one after the other.
use Rattle.std.proofs.Common.{◌≡◌, ℕ, ◌+◌, cond, Bool, true, false, [], ◌∷◌, Option, refl, ap}
use Rattle.std.proofs.Common.{arith}
use Rattle.std.proofs.lemmas.List.Sums.{sum_by-cons}
use Rattle.numa_requests.specs.declared.placement.Placement.{Placement}
use Rattle.numa_maps.specs.Residents.{Kept}
use Rattle.numa_placed.specs.Binds.{Asked}
use Rattle.numa_placed.specs.Spots.{pages_if}
use Rattle.numa_page_state.specs.Sending.{had_to_go, held_kept}

module _ (asked : Asked) (goal : ℕ → Option ℕ) where
  kept-first : (at : ℕ × Placement) (rest : Kept) → held_kept (at ∷ rest) asked goal
      ≡ cond (had_to_go asked goal at.0 at.1.node) 1 0 + held_kept rest asked goal
  kept-first at rest = sum_by-cons (λ (at : ℕ × Placement).
      cond {A = ℕ} (had_to_go asked goal at.0 at.1.node) 1 0) at rest

  as-cond : (b : Bool) → pages_if b 1 ≡ cond b 1 0
  as-cond true = refl
  as-cond false = refl

  -- one page more is counted
  pub kept-step : (before rest : Kept) (at : ℕ × Placement) (left one all : ℕ)
      → before ≡ at ∷ rest → left + held_kept before asked goal ≡ all
      → one ≡ pages_if (had_to_go asked goal at.0 at.1.node) 1
      → left + one + held_kept rest asked goal ≡ all
  kept-step before rest at left one all steps counts is =
      omega (
        arith,
        counts,
        ap (λ (k : Kept). held_kept k asked goal) steps,
        kept-first at rest,
        is,
        as-cond (had_to_go asked goal at.0 at.1.node),
      )

  pub kept-none : (rest : Kept) (left all : ℕ) → rest ≡ []
      → left + held_kept rest asked goal ≡ all → left ≡ all
  kept-none rest left all over counts =
      let none : held_kept rest asked goal ≡ 0 = ap (λ (k : Kept). held_kept k asked goal) over in
      omega (arith, counts, none)
