-- What the data of a plan mean.
use Rattle.std.specs.Prelude.{◌≡◌, ℕ, ◌+◌, ◌^◌, ◌<◌, ◌≤◌, ◌==◌, Bool, false, Option, Some, None}
use Rattle.std.specs.Prelude.{is_some}
use Rattle.std.specs.Prelude.{List, slice_index, unwrap_or, option_and_then, nat_le, if◌then◌else◌}
use Rattle.std.specs.Ordering.{nat_cmp}
use Rattle.std.specs.BTreeMap.{is_at}
use Rattle.std.specs.Map.{lookup}
use Rattle.std.specs.Option.{option_map}
use Rattle.numa_ranges.specs.Runs.{page_at}
use Rattle.numa_ranges.specs.Counts.{count_pages}
use Rattle.numa_ranges.specs.declared.run.Run.{Run}
use Rattle.numa_machine.specs.declared.refusal.PlaceRefusal.{PlaceRefusal}
use Rattle.numa_machine.specs.declared.refusal.PlaceRefusal.TheVariants.{BadCpu, Unmapped}
use Rattle.numa_plan.specs.Found.{HasHole}
use Rattle.numa_plan.specs.Rows.{RuleData, row_of, HasRows}
use Rattle.numa_plan.specs.Slots.{rule_in}
use Rattle.numa_plan.specs.declared.runs.Found.{Found}
use Rattle.numa_plan.specs.declared.slots.Slot.{Slot}

-- the number of nodes; runs in rising order, each with the number of its rule or none; policies and
-- their rules in slots; the number of the rule of some tasks; the local rule
pub record PlanData : Type 0 where
  pub version : ℕ
  pub nodes : ℕ
  pub runs : List (Run (Option ℕ))
  pub slots : List Slot
  pub tasks : List (ℕ × ℕ)
  pub local : RuleData

-- the number of a task's rule
abbrev pub number_of : List (ℕ × ℕ) → ℕ → Option ℕ
number_of tasks task = lookup (is_at (nat_cmp task)) tasks

-- the number of a run's rule, and of the task's where the run has none
abbrev pub number_for : List (ℕ × ℕ) → ℕ → Option ℕ → Option ℕ
number_for tasks task (Some number) = Some number
number_for tasks task None = number_of tasks task

-- the rule that serves: the run's, without one the task's, without one the local rule
abbrev pub rule_for : PlanData → ℕ → Option ℕ → RuleData
rule_for plan task number =
    unwrap_or (option_and_then (rule_in plan.slots) (number_for plan.tasks task number)) plan.local

-- the list of nodes for a task, a page and a faulting node, where a run has the page
abbrev pub planned_list : PlanData → ℕ → ℕ → ℕ → Option (List ℕ)
planned_list plan task page cpu = option_map (λ at. row_of (rule_for plan task at.1) cpu at.0)
    (page_at plan.runs page)

-- the list is that one, and the plan has the node
abbrev pub IsListFor : PlanData → ℕ → ℕ → ℕ → List ℕ → Type 0
IsListFor plan task page cpu nodes =
    (cpu < plan.nodes) × (planned_list plan task page cpu ≡ Some nodes)

-- the first node of that list
abbrev pub planned_first : PlanData → ℕ → ℕ → ℕ → Option ℕ
planned_first plan task page cpu =
    option_map (λ nodes. slice_index nodes 0) (planned_list plan task page cpu)

-- the first node of that list, or a mark where no run has the page
abbrev pub first_or : ℕ → PlanData → ℕ → ℕ → ℕ → ℕ
first_or unmapped plan task page cpu = unwrap_or (planned_first plan task page cpu) unmapped

-- whether a number is this one
abbrev pub is_number : ℕ → Option ℕ → Bool
is_number number None = false
is_number number (Some other) = other == number

-- how many pages of a span have this node as the first of their list
abbrev pub planned_count : PlanData → ℕ → ℕ → ℕ → ℕ → ℕ → ℕ
planned_count plan task first pages cpu node =
    count_pages (λ page. is_number node (planned_first plan task page cpu)) first pages

-- the count of each node is that of the pages of a span which have it as the first of their list
abbrev pub CountsFirsts : PlanData → ℕ → ℕ → ℕ → ℕ → List ℕ → Type 0
CountsFirsts plan task first pages cpu counts = (node : ℕ) → node < 256 → slice_index counts node
    ≡ planned_count plan task first pages cpu node

-- the first cause that refuses a page
abbrev pub place_refusal : PlanData → ℕ → ℕ → Option PlaceRefusal
place_refusal plan page cpu = if nat_le plan.nodes cpu then Some BadCpu
    else if is_some (page_at plan.runs page) then None else Some Unmapped

-- what is kept of the run that was found last: so many pages from this one on have the indexes from
-- this one on, and the rule is theirs
pub record IsNear (plan : PlanData) (task page : ℕ) (found : Found) (rule : RuleData) : Type 0 where
  pub few : found.index + found.left ≤ 2 ^ 48
  pub low : page + found.left ≤ 2 ^ 35
  pub each : (q : ℕ) → q < found.left → page_at plan.runs (page + q)
      ≡ Some (found.index + q, found.rule)
  pub serves : 0 < found.left → rule ≡ rule_for plan task found.rule
  pub rows : HasRows plan.nodes rule

-- a refusal of the pages from `first` on: the faulting node is none of the plan's, or else a page
-- isn't mapped
abbrev pub RefusesSpan : PlanData → ℕ → ℕ → ℕ → PlaceRefusal → Type 0
RefusesSpan plan first pages cpu BadCpu = plan.nodes ≤ cpu
RefusesSpan plan first pages cpu Unmapped = (cpu < plan.nodes) × HasHole plan.runs first pages
