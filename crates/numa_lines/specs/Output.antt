-- The bytes that a script is answered, by what each line is answered in a state and which state it
-- leads to.
use Rattle.std.specs.Prelude.{◌≡◌, ℕ, List, [], ◌∷◌, ◌++◌}
use Prim.Native.Nat.{suc}
use Rattle.numa_lines.specs.Lines.{lines_of, given_part}

module _ {Lack State : Type 0} (answer_of : Lack → State → List ℕ → List ℕ)
    (after : Lack → State → List ℕ → State) where
  -- the answers of the lines from a state on, where `refused k` says what memory lacked for at the
  -- line with k lines before it
  unfoldable pub answers : (ℕ → Lack) → State → List (List ℕ) → List ℕ
  answers refused state [] = []
  answers refused state (line ∷ lines) =
      answer_of (refused 0) state line
      ++ answers (λ k. refused (suc k)) (after (refused 0) state line) lines

  -- the state after the lines
  unfoldable pub state_after : (ℕ → Lack) → State → List (List ℕ) → State
  state_after refused state [] = state
  state_after refused state (line ∷ lines) =
      state_after (λ k. refused (suc k)) (after (refused 0) state line) lines

  -- the output of a script from a state on: the answers of its lines, where `refused` says for
  -- what memory lacked at each
  abbrev pub output_of : State → (ℕ → Lack) → List ℕ → List ℕ
  output_of start refused script = answers refused start (lines_of script)

  -- what a server is given of a line says as much as the whole line
  abbrev pub SeesEnough : Type 0
  SeesEnough = (refused : Lack) (state : State) (line : List ℕ)
      → (answer_of refused state (given_part line) ≡ answer_of refused state line)
      × (after refused state (given_part line) ≡ after refused state line)
