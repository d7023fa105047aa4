-- Script lines, each with what it was answered, as worked scripts hold them.
use Rattle.std.specs.Prelude.{ℕ, ◌+◌, ◌==◌, Bool, true, false, List, [], ◌∷◌, ◌++◌, length}
use Rattle.std.specs.Prelude.{position, codes, if◌then◌else◌, Option, Some, None}

-- its first line feed stands there
abbrev pub ends_at : Option ℕ → List ℕ → Bool
ends_at None text = false
ends_at (Some place) text = place + 1 == length text

-- whether an answer is one line, with its line feed
abbrev pub is_one_line : List ℕ → Bool
is_one_line answer = ends_at (position (λ b. b == 10) answer) answer

-- the rest of an answer, with `=> ` before each line that begins in it; a line begins here or not
unfoldable pub marked_from : Bool → List ℕ → List ℕ
marked_from begins [] = []
marked_from true (b ∷ bs) = codes "=> " ++ b ∷ marked_from (b == 10) bs
marked_from false (b ∷ bs) = b ∷ marked_from (b == 10) bs

-- an answer with `=> ` before each of its lines
abbrev pub with_marks : List ℕ → List ℕ
with_marks answer = marked_from true answer

-- a script line with its answer: on the same line where that is one line, else on lines of its own
unfoldable pub echo_of : List ℕ → List ℕ → List ℕ
echo_of line answer =
    if is_one_line answer then line ++ codes " => " ++ answer
    else line ++ codes "\n" ++ with_marks answer
