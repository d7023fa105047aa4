-- Pages that keep frames, counted one after the other.
use Rattle.std.proofs.Common.{◌≡◌, ℕ, ◌+◌, ◌==◌, not, cond, Bool, true, false, [], ◌∷◌}
use Rattle.std.proofs.Common.{refl, ap, arith, subst, sym, Option, Some, None}
use Rattle.std.specs.Prelude.{MatchResult, Result}
use Rattle.std.proofs.lemmas.List.Sums.{sum_by-cons}
use Rattle.numa_requests.specs.declared.page_refusal.MoveRefusal.{MoveRefusal}
use Rattle.numa_requests.specs.declared.placement.Placement.{Placement}
use Rattle.numa_maps.specs.Residents.{Kept}
use Rattle.numa_placed.specs.Shifts.{first_of}
use Rattle.numa_placed.specs.Spots.{pages_if}
use Rattle.numa_placed.specs.declared.moved.Moved.{Moved}
use Rattle.numa_page_state.specs.Lying.{Told, held_left, with_held}
use Rattle.numa_page_state.specs.Standing.{TellsOf}

held-first : (go : ℕ → ℕ) (at : ℕ × Placement) (rest : Kept) → held_left (at ∷ rest) go
    ≡ cond (not (go at.1.node == at.1.node)) 1 0 + held_left rest go
held-first go at rest =
    sum_by-cons (λ (at : ℕ × Placement). cond {A = ℕ} (not (go at.1.node == at.1.node)) 1 0) at rest

as-cond : (b : Bool) → pages_if b 1 ≡ cond b 1 0
as-cond true = refl
as-cond false = refl

-- one page more is counted
pub held-step : (go : ℕ → ℕ) (before rest : Kept) (at : ℕ × Placement) (left one all : ℕ)
    → before ≡ at ∷ rest → left + held_left before go ≡ all
    → one ≡ pages_if (not (go at.1.node == at.1.node)) 1
    → left + one + held_left rest go ≡ all
held-step go before rest at left one all steps counts is =
    omega (
      arith,
      counts,
      ap (λ (k : Kept). held_left k go) steps,
      held-first go at rest,
      is,
      as-cond (not (go at.1.node == at.1.node)),
    )

pub held-none : (go : ℕ → ℕ) (rest : Kept) (left all : ℕ) → rest ≡ []
    → left + held_left rest go ≡ all → left ≡ all
held-none go rest left all over counts =
    let none : held_left rest go ≡ 0 = ap (λ (k : Kept). held_left k go) over in
    omega (arith, counts, none)

-- what is told without a page that keeps a frame
pub tells-none : (moved : Moved) (told : Told) (kept : Kept) → kept ≡ [] → TellsOf moved told
    → TellsOf moved (with_held kept told)
tells-none moved told kept none tells =
    let zero : held_left kept told.to ≡ 0 = ap (λ (k : Kept). held_left k told.to) none in
    record {
      moved = tells.moved;
      left = omega (arith, tells.left, zero);
      from = tells.from;
      to = tells.to;
    }

pub tells-held : (moved : Moved) (told : Told) (resident kept : Kept) (held : ℕ) → resident ≡ kept
    → held ≡ held_left resident told.to → TellsOf moved told → TellsOf (record {
      moved = moved.moved;
      left = moved.left + held;
      from = moved.from;
      to = moved.to;
    }) (with_held kept told)
tells-held moved told resident kept held same counts tells = record {
  moved = tells.moved;
  left = omega (
    arith,
    tells.left,
    counts,
    ap (λ (k : Kept). held_left k told.to) same,
  );
  from = tells.from;
  to = tells.to;
}

-- ---- a page in a frame

-- what stands against any page there stands against it; where nothing does, it stays
pub held-then : (one other : Option MoveRefusal) (result : Result (Unit {0}) MoveRefusal)
    → one ≡ None → MatchResult result (λ done. other ≡ None) (λ refusal. other ≡ Some refusal)
    → MatchResult result (λ done. first_of one other ≡ None)
    (λ refusal. first_of one other ≡ Some refusal)
held-then one other result none is =
    subst (λ (c : Option MoveRefusal). MatchResult result (λ done. first_of c other ≡ None)
    (λ refusal. first_of c other ≡ Some refusal)) (sym none) is

pub held-barred : (one other : Option MoveRefusal) (refusal : MoveRefusal) → one ≡ Some refusal
    → first_of one other ≡ Some refusal
held-barred one other refusal is = ap (λ (c : Option MoveRefusal). first_of c other) is
