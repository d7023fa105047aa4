-- How a rule is kept.
use Rattle.std.specs.Prelude.{◌≡◌, ℕ, ◌*◌, ◌%◌, ◌<◌, ◌==◌, List, length, map, slice_index}
use Rattle.numa_machine.specs.Sizes.{turn_at}
use Rattle.numa_ranges.specs.Counts.{count_pages}
use Rattle.numa_plan.specs.Rows.{RuleData, Faulting, Fixed, InTurns}
use Rattle.numa_plan.specs.declared.rule.Body.{Body}
use Rattle.numa_plan.specs.declared.rule.Body.TheVariants as kept

-- what the parts of a rule say
abbrev pub data_of : Body → RuleData
data_of (kept.Faulting width rows) = record { key = Faulting; width = width; rows = rows.items }
data_of (kept.Fixed rows) = record { key = Fixed; width = length rows.items; rows = rows.items }
data_of (kept.Turns width rows cycle firsts) =
    record { key = InTurns cycle.items; width = width; rows = rows.items }

-- the first node of each row, in the order of the cycle
abbrev pub first_nodes : List ℕ → ℕ → List ℕ → List ℕ
first_nodes rows width cycle = map (λ number. slice_index rows (number * width)) cycle

-- a cycle isn't empty, and its first nodes stand beside it
abbrev pub IsRule : Body → Type 0
IsRule (kept.Faulting width rows) = Unit {0}
IsRule (kept.Fixed rows) = Unit {0}
IsRule (kept.Turns width rows cycle firsts) = (0 < length cycle.items)
    × (firsts ≡ first_nodes rows.items width cycle.items)

-- how many of so many pages, with the indexes from one on, have a turn of the node
abbrev pub pages_on : List ℕ → ℕ → ℕ → ℕ → ℕ
pages_on nodes first pages node =
    count_pages (λ index. slice_index nodes (turn_at index % length nodes) == node) first pages

-- how many of so many turns, from one on, have the node, in a cycle that begins again after its
-- last entry
abbrev pub turns_on : List ℕ → ℕ → ℕ → ℕ → ℕ
turns_on nodes start turns node =
    count_pages (λ turn. slice_index nodes (turn % length nodes) == node) start turns
