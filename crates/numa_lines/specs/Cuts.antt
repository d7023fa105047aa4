-- Bytes that are cut into lines.
use Rattle.std.specs.Prelude.{◌≡◌, ℕ, List, map}
use Rattle.numa_lines.specs.Lines.{ended_lines, open_line, given_part}
use Rattle.numa_lines.specs.declared.lines.Lines.{Lines}

-- the lines that have ended in the bytes were taken, each as far as a taker is given it, and the
-- open one is kept as far
abbrev pub HasCut : {T O : Type 0} → (T → O → T → O → List (List ℕ) → Type 0) → Lines T → O
    → Lines T → O → List ℕ → Type 0
HasCut has_taken first begun lines output bytes =
    has_taken first.taker begun lines.taker output (map given_part (ended_lines bytes))
    × (lines.line ≡ given_part (open_line bytes))
