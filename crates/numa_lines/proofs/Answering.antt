-- How the answers grow line by line.
use Rattle.std.specs.Prelude.{◌≡◌, ℕ, ◌++◌, List, [], ◌∷◌, length, refl}
use Rattle.std.proofs.Common.{sym, ◌∙◌, ap, append_assoc, arith}
use Rattle.std.proofs.lemmas.List.{append-nil}
use Rattle.numa_lines.specs.Output.{answers, state_after}
use Rattle.numa_lines.specs.Progress.{among}

module _ {Lack State : Type 0} (plenty : Lack) (answer_of : Lack → State → List ℕ → List ℕ)
    (after : Lack → State → List ℕ → State) where
  pub answers_more : (flags : List Lack) (flag : Lack) (state : State) (lines : List (List ℕ))
      (line : List ℕ) → length flags ≡ length lines →
      answers answer_of after (among plenty (flags ++ flag ∷ [])) state (lines ++ line ∷ [])
      ≡ answers answer_of after (among plenty flags) state lines
      ++ answer_of flag (state_after answer_of after (among plenty flags) state lines) line
  unfolding answers state_after
  answers_more [] flag state [] line h = append-nil _
  answers_more (f ∷ fs) flag state [] line h = cc
  answers_more [] flag state (l ∷ ls) line h = cc
  answers_more (f ∷ fs) flag state (l ∷ ls) line h =
      ap (λ r. answer_of f state l ++ r)
      (answers_more fs flag (after f state l) ls line (omega (arith, h)))
      ∙ sym (append_assoc (answer_of f state l) _ _)

  pub state_more : (flags : List Lack) (flag : Lack) (state : State) (lines : List (List ℕ))
      (line : List ℕ) → length flags ≡ length lines →
      state_after answer_of after (among plenty (flags ++ flag ∷ [])) state (lines ++ line ∷ [])
      ≡ after flag (state_after answer_of after (among plenty flags) state lines) line
  unfolding state_after
  state_more [] flag state [] line h = refl
  state_more (f ∷ fs) flag state [] line h = cc
  state_more [] flag state (l ∷ ls) line h = cc
  state_more (f ∷ fs) flag state (l ∷ ls) line h = state_more fs flag (after f state l) ls line
      (omega (arith, h))
