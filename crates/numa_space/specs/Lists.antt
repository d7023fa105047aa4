-- The fallback list of a page: on which nodes its memory is looked for, in which order
-- (set_mempolicy(2), "NUMA Memory Policy").
use Rattle.std.specs.Prelude.{ℕ, ◌&&◌, not, Option, Some, None, List, ◌++◌, filter, slice_index}
use Rattle.std.specs.Prelude.{◌==◌, unwrap_or, if◌then◌else◌}
use Rattle.numa_mask.specs.NodeSet.{has, members, both}
use Rattle.numa_machine.specs.Machine.{Hardware, fallback_order}
use Rattle.numa_machine.specs.Sizes.{turn_at}
use Rattle.numa_machine.specs.Weights.{interleave_node, weighted_node}
use Rattle.numa_mode.specs.Policy.{PolicyRecord}
use Rattle.numa_mode.specs.declared.modes.Mode.{Mode}
use Rattle.numa_mode.specs.declared.modes.Mode.TheVariants.{Default, Preferred, Bind, Interleave}
use Rattle.numa_mode.specs.declared.modes.Mode.TheVariants.{Local, PreferredMany}
use Rattle.numa_mode.specs.declared.modes.Mode.TheVariants.{WeightedInterleave}
use Rattle.numa_requests.specs.declared.command.Command.{Command}
use Rattle.numa_space.specs.Policies.{allowed_nodes, node_weight}
use Rattle.numa_space.specs.Pages.{index_of, resolved_policy}

-- what all lists depend on: the machine, the allowed nodes and the nodes' weights
pub record Setting : Type 0 where
  pub machine : Hardware
  pub allowed : ℕ
  pub weight : ℕ → ℕ

-- the nodes of a list that the set has
abbrev pub within : ℕ → List ℕ → List ℕ
within set nodes = filter (has set) nodes

-- the allowed nodes, in the order in which the machine has a node fall back to them: as a rule the
-- nearest first
abbrev pub near : Setting → ℕ → List ℕ
near setting node = within setting.allowed (fallback_order setting.machine node)

-- the nodes of a set in that order, and after them the other allowed nodes
abbrev pub before_others : Setting → ℕ → ℕ → List ℕ
before_others setting set from =
    within set (fallback_order setting.machine from)
    ++ filter (λ node. has setting.allowed node && not (has set node))
    (fallback_order setting.machine from)

-- the nodes of a set that BIND keeps to: those that are allowed, or where none is, all that are (the
-- policy of an object's places keeps its nodes, whoever maps it; others have allowed ones alone)
abbrev pub usable : ℕ → ℕ → ℕ
usable allowed set = if both set allowed == 0 then allowed else both set allowed

-- the list of a policy with this effective set, for a fault on the node `from`, at a page that has
-- this turn
abbrev pub list_by_mode : Setting → Mode → ℕ → ℕ → ℕ → List ℕ
list_by_mode setting Default set from turn = near setting from
list_by_mode setting Local set from turn = near setting from
list_by_mode setting Preferred set from turn = near setting (slice_index (members set) 0)
list_by_mode setting Bind set from turn =
    within (usable setting.allowed set) (fallback_order setting.machine from)
list_by_mode setting PreferredMany set from turn =
    before_others setting (both set setting.allowed) from
list_by_mode setting Interleave set from turn = near setting (interleave_node set turn)
list_by_mode setting WeightedInterleave set from turn =
    near setting (weighted_node setting.weight set turn)

-- the list of a policy: its home, if it has one, replaces the faulting node; without a policy it is
-- local. A page takes the turn of its index
abbrev pub list_for : Setting → Option PolicyRecord → ℕ → ℕ → List ℕ
list_for setting None cpu index = near setting cpu
list_for setting (Some r) cpu index = list_by_mode setting r.spec.mode r.effective
    (unwrap_or r.home cpu) (turn_at index)

abbrev pub setting_of : Hardware → List Command → Setting
setting_of machine history = record {
  machine = machine;
  allowed = allowed_nodes machine history;
  weight = node_weight history;
}

-- the fallback list of a task, a page and a faulting node
abbrev pub node_list : Hardware → List Command → ℕ → ℕ → ℕ → List ℕ
node_list machine history task page cpu = list_for (setting_of machine history)
    (resolved_policy machine history task page) cpu (index_of history page)
