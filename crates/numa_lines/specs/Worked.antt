-- Worked scripts: what a line of one holds.
use Rattle.std.specs.Prelude.{ℕ, ◌+◌, ◌≤◌, ◌==◌, ⊤, Bool, true, false, List, [], ◌∷◌, take, length}
use Rattle.std.specs.Prelude.{codes, if◌then◌else◌, Option, Some, None}
use Rattle.std.specs.List.{starts_with}
use Rattle.numa_lines.specs.declared.worked.LineForm.{LineForm}
use Rattle.numa_lines.specs.declared.worked.LineForm.TheVariants.{Script, Answered, Answer}

-- whether the text begins with this one
abbrev pub begins_with : List ℕ → List ℕ → Bool
begins_with first text = starts_with (λ a b. a == b) text first

-- a place further
abbrev pub further : Option ℕ → Option ℕ
further None = None
further (Some place) = Some (place + 1)

-- the place, or else the beginning, where that is one
abbrev pub or_here : Bool → Option ℕ → Option ℕ
or_here here (Some place) = Some place
or_here true None = Some 0
or_here false None = None

-- where the last ` => ` of a text begins
unfoldable pub last_mark : List ℕ → Option ℕ
last_mark [] = None
last_mark (b ∷ bs) = or_here (begins_with (codes " => ") (b ∷ bs)) (further (last_mark bs))

-- a line without ` => `
abbrev pub whole_of : List ℕ → LineForm
whole_of line = if begins_with (codes "=> ") line then Answer else Script

-- a line whose last ` => ` begins there
abbrev pub form_at : Option ℕ → List ℕ → LineForm
form_at (Some place) line = Answered place
form_at None line = whole_of line

-- What a line holds. A comment is a script line, whatever it says; a script line ends at the last
-- ` => ` of the first 4,101 bytes.
abbrev pub form_of : List ℕ → LineForm
form_of line =
    if begins_with (codes "#") line then Script else form_at (last_mark (take 4101 line)) line

-- what the form tells of lies in the line
abbrev pub IsWithin : List ℕ → LineForm → Type 0
IsWithin line Script = ⊤
IsWithin line (Answered end) = (end ≤ 4097) × (end + 4 ≤ length line)
IsWithin line Answer = 3 ≤ length line

-- whether a line of this form holds an answer that is wanted
abbrev pub wants_answer : LineForm → Bool
wants_answer Script = false
wants_answer (Answered end) = true
wants_answer Answer = true
