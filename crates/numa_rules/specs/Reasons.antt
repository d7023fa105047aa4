-- The parts of a reason: the page's range, the scope that counts, and the rule that puts the nodes
-- in order ("NUMA Memory Policy", scope and components of memory policies).
use Rattle.std.specs.Prelude.{ℕ, ◌%◌, Bool, false, Option, Some, None, List, [], ◌∷◌, ◌++◌, ◌&&◌}
use Rattle.std.specs.Prelude.{not, filter, slice_index, unwrap_or, if◌then◌else◌}
use Rattle.numa_mask.specs.NodeSet.{both, has, members, weight_of}
use Rattle.numa_machine.specs.Machine.{fallback_order}
use Rattle.numa_machine.specs.Sizes.{turn_at}
use Rattle.numa_machine.specs.Weights.{interleave_node, total_weight, weight_below, weighted_node}
use Rattle.numa_mode.specs.Policy.{PolicyRecord, is_live}
use Rattle.numa_mode.specs.declared.modes.Mode.{Mode}
use Rattle.numa_mode.specs.declared.modes.Mode.TheVariants as mode
use Rattle.numa_ranges.specs.Runs.{in_pages}
use Rattle.numa_ranges.specs.declared.run.Run.{Run}
use Rattle.numa_space.specs.Lists.{Setting, near, usable, within}
use Rattle.numa_rules.specs.declared.rule.WeightedTurn.{WeightedTurn}
use Rattle.numa_rules.specs.declared.rule.OrderRule.{OrderRule}
use Rattle.numa_rules.specs.declared.rule.OrderRule.TheVariants.{Local, Preferred, Bind}
use Rattle.numa_rules.specs.declared.rule.OrderRule.TheVariants.{PreferredMany, Interleave}
use Rattle.numa_rules.specs.declared.rule.OrderRule.TheVariants.{WeightedInterleave}
use Rattle.numa_rules.specs.declared.rule.Turn.{Turn}
use Rattle.numa_rules.specs.declared.scope.Scope.{Scope}
use Rattle.numa_rules.specs.declared.scope.Scope.TheVariants as scope

-- the run that has a page
abbrev pub run_with : {T : Type 0} → List (Run T) → ℕ → Option (Run T)
run_with [] page = None
run_with (run ∷ runs) page =
    if in_pages run.first run.pages page then Some run else run_with runs page

-- ---- the scope that counts

-- whether there is a policy, and it is live
abbrev pub has_live : Option PolicyRecord → Bool
has_live None = false
has_live (Some r) = is_live r

-- the range's where it has a live policy, else the task's where it has one, else the system's
abbrev pub scope_of : Option PolicyRecord → Option PolicyRecord → Scope
scope_of range task = if has_live range then scope.Range
    else if has_live task then scope.Task
    else scope.System

-- ---- the rule

-- interleave: the place of a turn among the members of a set, and the member there
abbrev pub turn_of : ℕ → ℕ → Turn
turn_of set turn = record {
  place = turn % weight_of set;
  members = weight_of set;
  node = interleave_node set turn;
}

-- weighted interleave: the place of a turn in a round of all weights, the member that has it, and
-- that member's places
abbrev pub block_of : (ℕ → ℕ) → ℕ → ℕ → WeightedTurn
block_of weight set turn = record {
  place = turn % total_weight weight set;
  total = total_weight weight set;
  node = weighted_node weight set turn;
  before = weight_below weight set (weighted_node weight set turn);
  weight = weight (weighted_node weight set turn);
}

-- the rule of a policy with this effective set, for a fault on the node `from`, at a page that has
-- this turn
abbrev pub rule_by_mode : (ℕ → ℕ) → Mode → ℕ → ℕ → ℕ → OrderRule
rule_by_mode weight mode.Default set from turn = Local from
rule_by_mode weight mode.Local set from turn = Local from
rule_by_mode weight mode.Preferred set from turn = Preferred (slice_index (members set) 0)
rule_by_mode weight mode.Bind set from turn = Bind from
rule_by_mode weight mode.PreferredMany set from turn = PreferredMany from
rule_by_mode weight mode.Interleave set from turn = Interleave (turn_of set turn)
rule_by_mode weight mode.WeightedInterleave set from turn =
    WeightedInterleave (block_of weight set turn)

-- the rule of a policy: its home, where it has one, stands in for the faulting node; without a
-- policy it is local. A page takes the turn of its index
abbrev pub rule_for : (ℕ → ℕ) → Option PolicyRecord → ℕ → ℕ → OrderRule
rule_for weight None cpu index = Local cpu
rule_for weight (Some r) cpu index =
    rule_by_mode weight r.spec.mode r.effective (unwrap_or r.home cpu) (turn_at index)

-- the effective set of a policy, if there is one
abbrev pub set_for : Option PolicyRecord → ℕ
set_for None = 0
set_for (Some r) = r.effective

-- the nodes of a set in the order of a node, and behind them the other allowed ones
abbrev pub before_others : Setting → ℕ → ℕ → List ℕ
before_others setting set from = within set (fallback_order setting.machine from)
    ++ filter (λ node. has setting.allowed node && not (has set node))
    (fallback_order setting.machine from)

-- the nodes as a rule puts them in order, for an effective set
abbrev pub ordered_by : Setting → ℕ → OrderRule → List ℕ
ordered_by setting set (Local from) = near setting from
ordered_by setting set (Preferred node) = near setting node
ordered_by setting set (Bind from) =
    within (usable setting.allowed set) (fallback_order setting.machine from)
ordered_by setting set (PreferredMany from) =
    before_others setting (both set setting.allowed) from
ordered_by setting set (Interleave turn) = near setting turn.node
ordered_by setting set (WeightedInterleave block) = near setting block.node
