-- One state of a space, judged by either rules.
use Rattle.std.specs.Prelude.{◌≡◌, ℕ, Option, Some, None, length}
use Rattle.numa_machine.specs.declared.rules.Rules.{Rules}
use Rattle.numa_machine.specs.declared.rules.Rules.TheVariants.{Document, Linux}
use Rattle.numa_mode.specs.Policy.{PolicyRecord, record_after}
use Rattle.numa_ranges.specs.Runs.{page_at}
use Rattle.numa_space.specs.Refusals.{PageMap, Scene, refusal_in}
use Rattle.numa_space.specs.Standing.{SpaceState, record_of}
use Rattle.numa_requests.specs.declared.command.Command.{Command}
use Rattle.numa_requests.specs.declared.refusal.Refusal.{Refusal}
use Rattle.numa_rules.specs.declared.otherwise.Otherwise.{Otherwise}
use Rattle.numa_rules.specs.declared.otherwise.Otherwise.TheVariants.{LeavesNodes}

-- what a command is judged by in a space, with the pages as they would be afterwards, by these
-- rules
abbrev pub scene_by : Rules → SpaceState → PageMap → Scene
scene_by rules space after = record {
  machine = record space.machine { rules = rules };
  bounds = space.bounds;
  version = space.version;
  allowed = space.allowed;
  pages = page_at space.ranges;
  pages_after = after;
  task = record_of space.tasks;
  task_count = length space.tasks;
}

-- the first cause that refuses a command in a space by these rules
abbrev pub refusal_by : Rules → SpaceState → PageMap → Command → Option Refusal
refusal_by rules space after command = refusal_in (scene_by rules space after) command

-- nothing that changes the answer is done otherwise
abbrev pub IsAnsweredAlike : Option Otherwise → Type 0
IsAnsweredAlike None = Unit {0}
IsAnsweredAlike (Some (LeavesNodes parted)) = Unit {0}
IsAnsweredAlike (Some _) = ⊥

-- a change of the allowed nodes from old to new leaves a policy with the same nodes by both rules
abbrev pub AreNodesAlike : ℕ → ℕ → PolicyRecord → Type 0
AreNodesAlike old new r =
    (record_after Document r old new).effective ≡ (record_after Linux r old new).effective
