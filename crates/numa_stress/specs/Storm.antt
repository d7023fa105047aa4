-- What a storm tells.
use Rattle.std.specs.Prelude.{ℕ, ◌++◌, ◌&&◌, ◌==◌, if◌then◌else◌, Bool, List, codes, decimal}
use Rattle.numa_stress.specs.declared.report.StormReport.{StormReport}

-- a line of a name and a number
unfoldable pub line_of : List ℕ → ℕ → List ℕ
line_of name number = name ++ codes " " ++ decimal number ++ codes "\n"

-- the line that says whether each placement is where the space of its version has it
unfoldable pub match_line : Bool → List ℕ
match_line plans_match =
    if plans_match then codes "plans match yes\n" else codes "plans match no\n"

-- the five lines
abbrev pub text_of : StormReport → List ℕ
text_of r =
    line_of (codes "workers") r.workers ++ line_of (codes "placed") r.placed
    ++ line_of (codes "exhausted") r.exhausted ++ match_line r.plans_match
    ++ line_of (codes "frames held") r.held

-- All went as it must on any schedule: the machine has 256 frames for the 320 pages, each of its
-- nodes is in each list, and no frame is given up
abbrev pub went_well : StormReport → Bool
went_well r =
    (r.placed == 256) && (r.exhausted == 64) && r.plans_match && (r.held == 256) && r.is_sound

-- the status with which the program ends
abbrev pub status_of : StormReport → ℕ
status_of r = if went_well r then 0 else 1
