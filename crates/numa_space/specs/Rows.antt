-- The fallback lists in words: which nodes each has, and in which order.
use Rattle.std.specs.Prelude.{◌≡◌, ◌≢◌, ◌≤◌, ◌↔◌, ℕ, ◌&&◌, not, Bool, true, IsTrue, List, ◌++◌}
use Rattle.std.specs.Prelude.{AllPairs, Contains}
use Rattle.numa_mask.specs.NodeSet.{has, members, both}
use Rattle.numa_machine.specs.Machine.{Hardware, precedes}
use Rattle.numa_machine.specs.Weights.{IsInterleaveNode, IsWeightedNode}
use Rattle.numa_mode.specs.declared.modes.Mode.{Mode}
use Rattle.numa_mode.specs.declared.modes.Mode.TheVariants.{Default, Preferred, Bind, Interleave}
use Rattle.numa_mode.specs.declared.modes.Mode.TheVariants.{Local, PreferredMany}
use Rattle.numa_mode.specs.declared.modes.Mode.TheVariants.{WeightedInterleave}
use Rattle.numa_space.specs.Lists.{Setting, usable}

-- the list has exactly the nodes with memory that pass the test, each once, and of each two the
-- earlier precedes the other for `from`: as a rule it is nearer, or as near and lower
pub record IsRow (machine : Hardware) (from : ℕ) (test : ℕ → Bool) (row : List ℕ) : Type 0 where
  pub nodes : (node : ℕ) → Contains row node ↔
      (Contains (members machine.memory) node × (test node ≡ true))
  pub without_repeats : AllPairs (λ earlier later. earlier ≢ later) row
  pub cheapest_first : AllPairs (λ earlier later. IsTrue (precedes machine from earlier later)) row

-- the row of the allowed nodes
abbrev pub IsNearRow : Setting → ℕ → List ℕ → Type 0
IsNearRow setting from row = IsRow setting.machine from (has setting.allowed) row

-- the node is the lowest of the set
pub record IsLowest (set node : ℕ) : Type 0 where
  pub member : Contains (members set) node
  pub lowest : (other : ℕ) → Contains (members set) other → node ≤ other

-- a row of the set, and after it one of the allowed nodes that the set lacks
pub record IsRowAndOthers (setting : Setting) (set from : ℕ) (row : List ℕ) : Type 0 where
  pub first : List ℕ
  pub others : List ℕ
  pub whole : row ≡ first ++ others
  pub is_first : IsRow setting.machine from (has set) first
  pub is_others : IsRow setting.machine from (λ node. has setting.allowed node
      && not (has set node)) others

-- the row of the allowed nodes around a node of which the fact holds
pub record IsRowAround (setting : Setting) (P : ℕ → Type 0) (row : List ℕ) : Type 0 where
  pub node : ℕ
  pub chosen : P node
  pub is_row : IsNearRow setting node row

-- the list of a mode with this effective set, for a fault on the node `from`, at a page that has
-- this turn
abbrev pub IsModeRow : Setting → Mode → ℕ → ℕ → ℕ → List ℕ → Type 0
IsModeRow setting Default set from turn row = IsNearRow setting from row
IsModeRow setting Local set from turn row = IsNearRow setting from row
IsModeRow setting Preferred set from turn row = IsRowAround setting (IsLowest set) row
IsModeRow setting Bind set from turn row =
    IsRow setting.machine from (has (usable setting.allowed set)) row
IsModeRow setting PreferredMany set from turn row =
    IsRowAndOthers setting (both set setting.allowed) from row
IsModeRow setting Interleave set from turn row =
    IsRowAround setting (IsInterleaveNode set turn) row
IsModeRow setting WeightedInterleave set from turn row =
    IsRowAround setting (IsWeightedNode setting.weight set turn) row
