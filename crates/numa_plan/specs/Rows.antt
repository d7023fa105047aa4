-- A rule: rows of nodes, and which of them serves a page; and the policy that it is for.
use Rattle.std.specs.Prelude.{ℕ, ◌+◌, ◌*◌, ◌%◌, ◌<◌, ◌≤◌, List, length, slice_index, slice_range}
use Rattle.numa_machine.specs.Sizes.{turn_at}
use Rattle.numa_mode.specs.Policy.{PolicyRecord}

-- which row serves: that of the faulting node, the only one, or the one whose number stands in the
-- cycle at the page's turn modulo the cycle's length
pub data Key : Type 0 where
  Faulting : Key
  Fixed : Key
  InTurns : (cycle : List ℕ) → Key

-- rows of one length, its width, one behind another
pub record RuleData : Type 0 where
  pub key : Key
  pub width : ℕ
  pub rows : List ℕ

-- a policy and its rule
pub record Kept : Type 0 where
  pub policy : PolicyRecord
  pub rule : RuleData

abbrev pub number_by : Key → ℕ → ℕ → ℕ
number_by Faulting cpu turn = cpu
number_by Fixed cpu turn = 0
number_by (InTurns cycle) cpu turn = slice_index cycle (turn % length cycle)

-- the number of the row that serves, for a faulting node and a page's index
abbrev pub row_number : RuleData → ℕ → ℕ → ℕ
row_number rule cpu index = number_by rule.key cpu (turn_at index)

-- a row, by its number
abbrev pub row_at : RuleData → ℕ → List ℕ
row_at rule number = slice_range rule.rows (number * rule.width) (number * rule.width + rule.width)

-- the row that serves
abbrev pub row_of : RuleData → ℕ → ℕ → List ℕ
row_of rule cpu index = row_at rule (row_number rule cpu index)

-- the first node of the row that serves
abbrev pub first_of : RuleData → ℕ → ℕ → ℕ
first_of rule cpu index = slice_index (row_of rule cpu index) 0

-- the rule has a row of this number, with at least one node and at most 256
pub record HasRow (rule : RuleData) (number : ℕ) : Type 0 where
  pub some : 0 < rule.width
  pub few : rule.width ≤ 256
  pub there : number * rule.width + rule.width ≤ length rule.rows

-- each node of a machine finds its row, at every index
abbrev pub HasRows : ℕ → RuleData → Type 0
HasRows nodes rule = (cpu index : ℕ) → cpu < nodes → HasRow rule (row_number rule cpu index)
