-- Which plans stand for a history, and which are a space's.
use Rattle.std.specs.Prelude.{◌≡◌, ℕ, ◌<◌, true, false, Option, Some, None, is_some, List, length}
use Rattle.std.specs.Option.{option_map}
use Rattle.numa_machine.specs.Machine.{Hardware}
use Rattle.numa_ranges.specs.Runs.{page_at}
use Rattle.numa_requests.specs.declared.command.Command.{Command}
use Rattle.numa_space.specs.Lists.{list_for, node_list}
use Rattle.numa_space.specs.Pages.{is_mapped}
use Rattle.numa_space.specs.Policies.{policy_that_counts}
use Rattle.numa_space.specs.Standing.{SpaceState, record_of, setting_in}
use Rattle.numa_plan.specs.Meaning.{PlanData, planned_list}

-- the plan stands for the history: its version is the number of accepted commands, its nodes are
-- the machine's, and its list of each mapped page, for each task and each node of the machine, is
-- the fallback list; a page that isn't mapped has none
pub record PlanStandsFor (machine : Hardware) (plan : PlanData)
    (history : List Command) : Type 0 where
  pub version : plan.version ≡ length history
  pub nodes : plan.nodes ≡ machine.nodes
  pub lists : (task page cpu : ℕ) → cpu < machine.nodes → is_mapped history page ≡ true
      → planned_list plan task page cpu ≡ Some (node_list machine history task page cpu)
  pub unmapped : (task page cpu : ℕ) → is_mapped history page ≡ false
      → planned_list plan task page cpu ≡ None

-- the list of a page by what a space shows
abbrev pub shown_list : SpaceState → ℕ → ℕ → ℕ → Option (List ℕ)
shown_list space task page cpu = option_map (λ at. list_for (setting_in space)
    (policy_that_counts at.1 (record_of space.tasks task)) cpu at.0) (page_at space.ranges page)

-- the plan says of each page what the space says, and has one run for each range
pub record IsPlanOf (space : SpaceState) (plan : PlanData) : Type 0 where
  pub version : plan.version ≡ space.version
  pub nodes : plan.nodes ≡ space.machine.nodes
  pub lists : (task page cpu : ℕ) → cpu < space.machine.nodes
      → planned_list plan task page cpu ≡ shown_list space task page cpu
  pub pages : (page : ℕ) → is_some (page_at plan.runs page) ≡ is_some (page_at space.ranges page)
  pub one_run_each : length plan.runs ≡ length space.ranges
