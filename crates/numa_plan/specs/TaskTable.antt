-- The sorted table of tasks' rule numbers.
use Rattle.std.specs.Prelude.{zero, suc, ◌≡◌, ℕ, ◌<◌, ◌≤◌, List, [], ◌∷◌}
use Rattle.std.specs.List.Sorted.{IsStrictlySortedBy}
use Rattle.std.specs.Map.{keys_of}
use Rattle.std.specs.Ordering.{nat_cmp}

-- each entry's task is below those of the entries after it
abbrev pub AreSorted : List (ℕ × ℕ) → Type 0
AreSorted entries = IsStrictlySortedBy nat_cmp (keys_of entries)

-- the place at which a task's entry is or would be inserted: the tasks before it are lower, and the
-- one that is there isn't
abbrev pub IsPlaceOf : ℕ → List (ℕ × ℕ) → ℕ → Type 0
IsPlaceOf task [] place = place ≡ 0
IsPlaceOf task (entry ∷ entries) zero = task ≤ entry.0
IsPlaceOf task (entry ∷ entries) (suc place) = (entry.0 < task) × IsPlaceOf task entries place
