-- What a space shows, and which histories it stands for.
use Rattle.std.specs.Prelude.{◌≡◌, ◌≢◌, ◌≤◌, ◌<◌, ℕ, Bool, true, false, nat_eq, nat_le, is_some}
use Rattle.std.specs.Prelude.{Option, not, ◌&&◌}
use Rattle.std.specs.Prelude.{Some, None, List, [], ◌∷◌, length, AllPairs, All, if◌then◌else◌}
use Rattle.std.specs.Prelude.{option_and_then}
use Rattle.std.specs.Option.{ForSome, option_map_or}
use Rattle.std.specs.Map.{lookup}
use Rattle.numa_mask.specs.NodeSet.{has, both}
use Rattle.numa_machine.specs.Machine.{Hardware}
use Rattle.numa_machine.specs.Weights.{NodeWeights, weight_at}
use Rattle.numa_mode.specs.Policy.{PolicyRecord, stays}
use Rattle.numa_ranges.specs.Runs.{page_at}
use Rattle.numa_ranges.specs.declared.run.Run.{Run}
use Rattle.numa_space.specs.Limited.{Bounds}
use Rattle.numa_requests.specs.declared.command.Command.{Command}
use Rattle.numa_machine.specs.declared.refusal.PlaceRefusal.{PlaceRefusal}
use Rattle.numa_machine.specs.declared.refusal.PlaceRefusal.TheVariants.{BadCpu, Unmapped}
use Rattle.numa_space.specs.Policies.{allowed_nodes, task_record, tasks_of, node_weight}
use Rattle.numa_space.specs.Policies.{policy_that_counts}
use Rattle.numa_space.specs.Pages.{page_in, is_mapped}
use Rattle.numa_space.specs.Lists.{Setting, list_for}
use Rattle.numa_space.specs.Refusals.{refusal_of}

-- a space: its machine and limits, the number of accepted commands, the allowed nodes, the ranges
-- in rising order, the tasks that have a policy, and the nodes' weights
pub record SpaceState : Type 0 where
  pub machine : Hardware
  pub bounds : Bounds
  pub version : ℕ
  pub allowed : ℕ
  pub ranges : List (Run (Option PolicyRecord))
  pub tasks : List (ℕ × PolicyRecord)
  pub weights : NodeWeights

-- the record of a task
abbrev pub record_of : List (ℕ × PolicyRecord) → ℕ → Option PolicyRecord
record_of tasks task = lookup (nat_eq task) tasks

-- a task has no policy, and as many as may have one do
abbrev pub lacks_place : ℕ → List (ℕ × PolicyRecord) → ℕ → Bool
lacks_place most tasks task = not (is_some (record_of tasks task)) && nat_le most (length tasks)

-- the space stands for the history: each part of it is what the accepted commands mean
pub record StandsFor (space : SpaceState) (history : List Command) : Type 0 where
  pub version : space.version ≡ length history
  pub allowed : space.allowed ≡ allowed_nodes space.machine history
  pub pages : (page : ℕ) → page_at space.ranges page ≡ page_in space.machine history page
  pub tasks : (task : ℕ) → record_of space.tasks task ≡ task_record space.machine history task
  pub task_count : length space.tasks ≡ length (tasks_of history)
  pub weights : (node : ℕ) → weight_at space.weights node ≡ node_weight history node

-- against no command of the history did a cause stand when it came
abbrev pub IsAccepted : Hardware → Bounds → List Command → Type 0
IsAccepted machine bounds [] = Unit {0}
IsAccepted machine bounds (command ∷ history) =
    (refusal_of machine bounds history command ≡ None) × IsAccepted machine bounds history

-- the space stands for a history of accepted commands
pub record HasHistory (space : SpaceState) : Type 0 where
  pub history : List Command
  pub accepted : IsAccepted space.machine space.bounds history
  pub stands : StandsFor space history

-- ---- what a space answers

abbrev pub setting_in : SpaceState → Setting
setting_in space = record {
  machine = space.machine;
  allowed = space.allowed;
  weight = weight_at space.weights;
}

-- the live policy of a page for a task
abbrev pub policy_in : SpaceState → ℕ → ℕ → Option PolicyRecord
policy_in space task page =
    policy_that_counts (option_and_then (λ at. at.1) (page_at space.ranges page))
    (record_of space.tasks task)

-- the fallback list of a page
abbrev pub list_in : SpaceState → ℕ → ℕ → ℕ → List ℕ
list_in space task page cpu = list_for (setting_in space) (policy_in space task page) cpu
    (option_map_or (λ at. at.0) (page_at space.ranges page) 0)

-- the first cause that refuses a question about a page, where these pages are mapped
abbrev pub place_refusal_in : ℕ → Bool → ℕ → Option PlaceRefusal
place_refusal_in nodes mapped cpu = if nat_le nodes cpu then Some BadCpu else if mapped then None
    else Some Unmapped

abbrev pub place_refusal_of : Hardware → List Command → ℕ → ℕ → Option PlaceRefusal
place_refusal_of machine history page cpu = place_refusal_in machine.nodes
    (is_mapped history page) cpu

-- a list in which memory is looked for: it has a node, each once, and only allowed ones
pub record IsNodeList (allowed : ℕ) (nodes : List ℕ) : Type 0 where
  pub some : nodes ≢ []
  pub each_once : AllPairs (λ earlier later. earlier ≢ later) nodes
  pub inside : All (λ node. has allowed node ≡ true) nodes

-- ---- what holds of every space

-- a policy that is in force where these nodes are allowed: its set is inside them, where it follows
-- them, its nodes have memory, and its home is a node of the machine
pub record IsInForce (machine : Hardware) (allowed : ℕ) (r : PolicyRecord) : Type 0 where
  pub inside : r.of_object ≡ false → stays machine.rules r.spec.mode ≡ false
      → both r.effective allowed ≡ r.effective
  pub memory : both r.effective machine.memory ≡ r.effective
  pub home : ForSome r.home (λ node. node < machine.nodes)

pub record IsSound (space : SpaceState) : Type 0 where
  pub allowed_some : space.allowed ≢ 0
  pub allowed_memory : both space.allowed space.machine.memory ≡ space.allowed
  pub pages : (page : ℕ) → ForSome (page_at space.ranges page)
      (λ at. ForSome at.1 (IsInForce space.machine space.allowed))
  pub tasks : (task : ℕ) → ForSome (record_of space.tasks task)
      (IsInForce space.machine space.allowed)
  pub task_limit : length space.tasks ≤ space.bounds.max_tasks
  pub version_limit : space.version ≤ space.bounds.max_commands

-- ---- lists of commands

-- the history once one command more came: with it, where no cause stands against it
abbrev pub accepted_next : Hardware → Bounds → List Command → Command → List Command
accepted_next machine bounds history command =
    if is_some (refusal_of machine bounds history command) then history else command ∷ history

-- the history after a list of commands, the oldest first, none of which wanted memory
abbrev pub accepted_of : Hardware → Bounds → List Command → List Command → List Command
accepted_of machine bounds [] history = history
accepted_of machine bounds (command ∷ commands) history =
    accepted_of machine bounds commands (accepted_next machine bounds history command)
