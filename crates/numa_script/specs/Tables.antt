-- Words that stand for something.
use Rattle.std.specs.Prelude.{ℕ, List, [], ◌∷◌, if◌then◌else◌, Option, Some, None}
use Rattle.std.specs.Str.{bytes_eq}

-- the meaning of the word, by the first entry that has it
abbrev pub meaning_of : {T : Type 0} → List (List ℕ × T) → List ℕ → Option T
meaning_of [] word = None
meaning_of (entry ∷ entries) word =
    if bytes_eq word entry.0 then Some entry.1 else meaning_of entries word
