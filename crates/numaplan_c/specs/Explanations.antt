-- What an exported call that explains where a page goes answers.
use Rattle.std.specs.Prelude.{◌≡◌, ℕ, Result, Ok, Err}
use Rattle.numa_machine.specs.Sizes.{turn_at}
use Rattle.numa_rules.specs.declared.explanation.Explanation.{Explanation}
use Rattle.numa_rules.specs.declared.fault.ReasonError.{ReasonError}
use Rattle.numa_rules.specs.declared.fault.ReasonError.TheVariants as fault
use Rattle.numa_rules.specs.declared.rule.OrderRule.{OrderRule}
use Rattle.numa_rules.specs.declared.rule.OrderRule.TheVariants as rule
use Rattle.numa_rules.specs.declared.scope.Scope.{Scope}
use Rattle.numa_rules.specs.declared.scope.Scope.TheVariants as scope
use Rattle.numaplan_c.specs.Codes.{place_code}
use Rattle.numaplan_c.specs.Standing.{TellsPolicy}
use Rattle.numaplan_c.specs.declared.explanations.NpExplanation.{NpExplanation}

abbrev pub scope_number : Scope → ℕ
scope_number scope.Range = 0
scope_number scope.Task = 1
scope_number scope.System = 2

abbrev pub rule_number : OrderRule → ℕ
rule_number (rule.Local node) = 0
rule_number (rule.Preferred node) = 1
rule_number (rule.Bind node) = 2
rule_number (rule.PreferredMany node) = 3
rule_number (rule.Interleave turn) = 4
rule_number (rule.WeightedInterleave turn) = 5

-- the node in whose order the nodes are: the faulting node, the home, the lowest of the policy's,
-- or the one whose turn it is
abbrev pub rule_node : OrderRule → ℕ
rule_node (rule.Local node) = node
rule_node (rule.Preferred node) = node
rule_node (rule.Bind node) = node
rule_node (rule.PreferredMany node) = node
rule_node (rule.Interleave turn) = turn.node
rule_node (rule.WeightedInterleave turn) = turn.node

-- the place of the page's turn among how many; 0 of 0 where nodes take no turns
abbrev pub turn_in : OrderRule → ℕ × ℕ
turn_in (rule.Local node) = (0, 0)
turn_in (rule.Preferred node) = (0, 0)
turn_in (rule.Bind node) = (0, 0)
turn_in (rule.PreferredMany node) = (0, 0)
turn_in (rule.Interleave turn) = (turn.place, turn.members)
turn_in (rule.WeightedInterleave turn) = (turn.place, turn.total)

-- the struct of an explanation
pub record TellsExplanation (said : Explanation) (told : NpExplanation) : Type 0 where
  pub policy : TellsPolicy said.policy told.policy
  pub index : told.index ≡ turn_at said.index
  pub turn : (told.place ≡ (turn_in said.rule).0) × (told.places ≡ (turn_in said.rule).1)
  pub scope : told.scope ≡ scope_number said.scope
  pub rule : told.rule ≡ rule_number said.rule
  pub node : told.node ≡ rule_node said.rule

abbrev pub reason_code : ReasonError → ℕ
reason_code (fault.Refused cause) = place_code cause
reason_code fault.NoMemory = 3

-- an explanation is told; where it is refused, what stood there stays
abbrev pub TellsReasons : Result Explanation ReasonError → ℕ → NpExplanation → NpExplanation
    → Type 0
TellsReasons (Ok said) code old new = (code ≡ 0) × TellsExplanation said new
TellsReasons (Err why) code old new = (code ≡ reason_code why) × (new ≡ old)
