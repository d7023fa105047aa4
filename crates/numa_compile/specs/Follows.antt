-- Which plans follow a space: how its ranges and tasks stand in the plan, and the policies of both.
use Rattle.std.specs.Prelude.{◌≡◌, None}
use Rattle.numa_space.specs.Changed.{IsChange}
use Rattle.numa_space.specs.declared.change.Change.{Change}
use Rattle.numa_requests.specs.declared.command.Command.{Command}
use Rattle.numa_space.specs.Standing.{SpaceState, setting_in}
use Rattle.numa_space.specs.Steps.{IsStep}
use Rattle.numa_plan.specs.Meaning.{PlanData}
use Rattle.numa_plan.specs.Slots.{policy_in}
use Rattle.numa_compile.specs.Copies.{AreCopies, HasTasks}
use Rattle.numa_compile.specs.Rules.{IsRuleOf}
use Rattle.numa_compile.specs.Sharing.{AreServing}

-- the plan has a run for each range of the space and a number for each task, by the policies in its
-- slots, and each rule in a slot serves its policy
pub record Follows (space : SpaceState) (plan : PlanData) : Type 0 where
  pub version : plan.version ≡ space.version
  pub nodes : plan.nodes ≡ space.machine.nodes
  pub local : IsRuleOf (setting_in space) plan.local None
  pub rules : AreServing space plan.slots
  pub copies : AreCopies (policy_in plan.slots) space.ranges plan.runs
  pub tasks : HasTasks (policy_in plan.slots) space.tasks plan

-- the plan follows the space as it was before its last command
pub record IsBehind (space : SpaceState) (command : Command) (plan : PlanData) : Type 0 where
  pub before : SpaceState
  pub step : IsStep before command space
  pub follows : Follows before plan

-- the plan lacks this change, which is that of the last command
pub record LacksChange (space : SpaceState) (change : Change) (plan : PlanData) : Type 0 where
  pub command : Command
  pub behind : IsBehind space command plan
  pub told : IsChange behind.before command change
