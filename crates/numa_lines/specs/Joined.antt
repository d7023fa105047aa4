-- Several readers, read as one.
use Rattle.std.specs.Prelude.{ℕ, ◌==◌, Bool, false, true, not, Option, Some, None, List, []}
use Rattle.std.specs.Prelude.{◌∷◌, ◌++◌}
use Rattle.std.specs.Option.{option_map}
use Rattle.std.specs.Vec.Iter.{into_iter_items}
use Rattle.numa_lines.specs.declared.joined.Joined.{Joined}

-- whether a line is open behind the bytes: they don't end with a line feed; where there are none,
-- as before
abbrev pub open_behind : Bool → List ℕ → Bool
open_behind begun [] = begun
open_behind begun (b ∷ bs) = open_behind (not (b == 10)) bs

-- the line feed that ends an open line
abbrev pub line_end : Bool → List ℕ
line_end true = 10 ∷ []
line_end false = []

-- the bytes, with a line feed where they don't end with one, and then the rest
abbrev pub ended_then : Bool → Option (List ℕ) → Option (List ℕ) → Option (List ℕ)
ended_then begun None rest = None
ended_then begun (Some bytes) rest =
    option_map (λ more. bytes ++ (line_end (open_behind begun bytes) ++ more)) rest

-- what readers give in turn, each ended by a line feed, where all their bytes are known
abbrev pub bytes_in_turn : {R : Type 0} → (R → Option (List ℕ)) → List R → Option (List ℕ)
bytes_in_turn remaining [] = Some []
bytes_in_turn remaining (reader ∷ readers) =
    ended_then false (remaining reader) (bytes_in_turn remaining readers)

-- the same from inside a reader, a line of which is begun or not; where there is none, nothing
abbrev pub bytes_from : {R : Type 0} → (R → Option (List ℕ)) → Bool → Option R → List R
    → Option (List ℕ)
bytes_from remaining begun None readers = Some []
bytes_from remaining begun (Some reader) readers =
    ended_then begun (remaining reader) (bytes_in_turn remaining readers)

-- what joined readers have left
abbrev pub joined_bytes : {R : Type 0} → (R → Option (List ℕ)) → Joined R → Option (List ℕ)
joined_bytes remaining joined =
    bytes_from remaining joined.is_open joined.reader (into_iter_items joined.others)
