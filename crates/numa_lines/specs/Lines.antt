-- Where the lines of a script end.
use Rattle.std.specs.Prelude.{◌≡◌, ℕ, ◌==◌, ◌<◌, false, List, [], ◌∷◌, length, slice_index, take}
use Rattle.std.specs.List.{slice_split}

-- the lines of a script: what stands between line feeds, so that the last is empty where the script
-- ends in one
abbrev pub lines_of : List ℕ → List (List ℕ)
lines_of script = slice_split (λ b. b == 10) script

abbrev pub all_but_last : List (List ℕ) → List (List ℕ)
all_but_last [] = []
all_but_last (line ∷ []) = []
all_but_last (line ∷ next ∷ lines) = line ∷ all_but_last (next ∷ lines)

abbrev pub last_of : List (List ℕ) → List ℕ
last_of [] = []
last_of (line ∷ []) = line
last_of (line ∷ next ∷ lines) = last_of (next ∷ lines)

-- the lines that a line feed has ended in the bytes, and the line that is open
unfoldable pub ended_lines : List ℕ → List (List ℕ)
ended_lines bytes = all_but_last (lines_of bytes)

unfoldable pub open_line : List ℕ → List ℕ
open_line bytes = last_of (lines_of bytes)

-- as much of a line as a server is given: its first 4,097 bytes
unfoldable pub given_part : List ℕ → List ℕ
given_part line = take 4097 line

-- no line feed stands among the bytes
abbrev pub IsPiece : List ℕ → Type 0
IsPiece bytes = (k : ℕ) → k < length bytes → (slice_index bytes k == 10) ≡ false
