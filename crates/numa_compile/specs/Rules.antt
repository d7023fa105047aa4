-- How the rules of a plan are made: rows of nodes, and the cycles in which they take turns.
use Rattle.std.specs.Prelude.{◌≡◌, ◌≢◌, ℕ, ◌+◌, ◌^◌, ◌<◌, ◌≤◌, ◌&&◌, not, Option, List, [], ◌∷◌}
use Rattle.std.specs.Prelude.{◌++◌}
use Rattle.std.specs.Prelude.{filter, flat_map, replicate, All}
use Rattle.numa_mask.specs.NodeSet.{has, members, weight_of}
use Rattle.numa_machine.specs.Machine.{fallback_order}
use Rattle.numa_mode.specs.Policy.{PolicyRecord}
use Rattle.numa_space.specs.Lists.{Setting, list_for, within}
use Rattle.numa_space.specs.Standing.{SpaceState, IsSound}
use Rattle.numa_plan.specs.Rows.{RuleData, HasRow, row_number, row_of}
use Rattle.numa_compile.specs.declared.reach.Reach.{Reach}
use Rattle.numa_compile.specs.declared.reach.Reach.TheVariants.{Only, First}

-- the row for a fault on a node: the nodes of a set, the nearest first, alone or with the other
-- allowed nodes behind them
abbrev pub row_from : Setting → Reach → ℕ → List ℕ
row_from setting (Only set) from = within set (fallback_order setting.machine from)
row_from setting (First set) from =
    within set (fallback_order setting.machine from)
    ++ filter (λ node. has setting.allowed node && not (has set node))
    (fallback_order setting.machine from)

-- the rows for faults on these nodes, one behind another
abbrev pub rows_from : Setting → Reach → List ℕ → List ℕ
rows_from setting reach nodes = flat_map (row_from setting reach) nodes

-- the set that comes first
abbrev pub set_in : Reach → ℕ
set_in (Only set) = set
set_in (First set) = set

-- a set that stands alone has a node; behind another stand those that are allowed
abbrev pub IsFilled : Reach → Type 0
IsFilled (Only set) = set ≢ 0
IsFilled (First set) = Unit {0}

-- how many nodes each row has
abbrev pub width_in : Setting → Reach → ℕ
width_in setting (Only set) = weight_of set
width_in setting (First set) = weight_of setting.allowed

-- the place of each node in a list, from this one on, as often as the node's weight
abbrev pub places_from : ℕ → (ℕ → ℕ) → List ℕ → List ℕ
places_from place weight [] = []
places_from place weight (node ∷ nodes) = replicate (weight node) place
    ++ places_from (place + 1) weight nodes

-- for each faulting node and index the rule has a row, which is this one
abbrev pub GivesRows : ℕ → RuleData → (ℕ → ℕ → List ℕ) → Type 0
GivesRows nodes rule row = (cpu index : ℕ) → cpu < nodes → HasRow rule (row_number rule cpu index)
    × (row_of rule cpu index ≡ row cpu index)

-- the rule of a policy, or of local allocation where there is none
abbrev pub IsRuleOf : Setting → RuleData → Option PolicyRecord → Type 0
IsRuleOf setting rule policy = GivesRows setting.machine.nodes rule (list_for setting policy)

-- what holds of a space that is compiled: it and its machine are sound
pub record IsReady (space : SpaceState) : Type 0 where
  pub sound : IsSound space
  pub some_nodes : 0 < space.machine.nodes
  pub few_nodes : space.machine.nodes ≤ 256
  pub memory : space.machine.memory < 2 ^ 256
  pub of_the_machine : All (λ node. node < space.machine.nodes) (members space.machine.memory)
