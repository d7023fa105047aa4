-- What a handle of a plan keeps, and what it answers.
use Rattle.std.specs.Prelude.{◌≡◌, ◌≢◌, ◌+◌, ◌<◌, ◌≤◌, ℕ, List, length, take, drop}
use Rattle.std.specs.Prelude.{Option, Some, None, Result, Ok, Err, EachIndex, slice_get}
use Rattle.std.specs.Prelude.{slice_index}
use Rattle.numa_plan.specs.Found.{IsMapped}
use Rattle.numa_plan.specs.Meaning.{PlanData, planned_list, planned_first, place_refusal}
use Rattle.numa_plan.specs.Meaning.{CountsFirsts, RefusesSpan, first_or}
use Rattle.numa_plan.specs.Turns.{TellsTurns}
use Rattle.numa_plan.specs.declared.plan.turns.PageTurns.{PageTurns}
use Rattle.numa_machine.specs.declared.refusal.PlaceRefusal.{PlaceRefusal}
use Rattle.numa_machine.specs.declared.refusal.PlaceRefusal.TheVariants.{BadCpu}
use Rattle.numaplan_handles.specs.declared.plan_view.ChoiceRefusal.{ChoiceRefusal}
use Rattle.numaplan_handles.specs.declared.plan_view.ChoiceRefusal.TheVariants as refused

-- the list of a page of the plan, for a task and a fault on the node
abbrev pub IsListOf : Option PlanData → ℕ → ℕ → ℕ → List ℕ → Type 0
IsListOf None task page cpu list = Unit {0}
IsListOf (Some plan) task page cpu list =
    (cpu < plan.nodes) × (planned_list plan task page cpu ≡ Some list)

-- the plan has no list for the page, for this cause
abbrev pub HasNoList : Option PlanData → ℕ → ℕ → PlaceRefusal → Type 0
HasNoList None page cpu cause = Unit {0}
HasNoList (Some plan) page cpu cause = place_refusal plan page cpu ≡ Some cause

-- the answer to the question for a page's list, and what the room for it held before and after: the
-- list is at the beginning, or there is no room, or no list
abbrev pub Chooses : Option PlanData → ℕ → ℕ → ℕ → Result ℕ ChoiceRefusal → List ℕ → List ℕ → Type 0
Chooses plan task page cpu (Ok count) old new =
    IsListOf plan task page cpu (take count new) × (drop count new ≡ drop count old)
Chooses plan task page cpu (Err (refused.TooShort count)) old new =
    ((list : List ℕ) × IsListOf plan task page cpu list × (count ≡ length list)) × (new ≡ old)
Chooses plan task page cpu (Err (refused.Place cause)) old new =
    HasNoList plan page cpu cause × (new ≡ old)

-- the same of the first nodes of a span
abbrev pub Fills : Option PlanData → ℕ → ℕ → ℕ → Result (Unit {0}) PlaceRefusal → List ℕ → List ℕ
    → Type 0
Fills None task first cpu answer old new = Unit {0}
Fills (Some plan) task first cpu (Ok done) old new = (cpu < plan.nodes)
    × EachIndex new (λ k. planned_first plan task (first + k) cpu ≡ Some (slice_index new k))
Fills (Some plan) task first cpu (Err cause) old new =
    RefusesSpan plan first (length old) cpu cause × (new ≡ old)

-- the same with a mark for each page that isn't mapped
abbrev pub FillsMarked : Option PlanData → ℕ → ℕ → ℕ → ℕ → Result (Unit {0}) PlaceRefusal → List ℕ
    → List ℕ → Type 0
FillsMarked None task first cpu mark answer old new = Unit {0}
FillsMarked (Some plan) task first cpu mark (Ok done) old new = (cpu < plan.nodes)
    × EachIndex new (λ k. slice_index new k ≡ first_or mark plan task (first + k) cpu)
FillsMarked (Some plan) task first cpu mark (Err cause) old new = (cause ≡ BadCpu)
    × (plan.nodes ≤ cpu) × (new ≡ old)

-- and of pages in whatever order: at each one's place its first node, or the mark where it isn't
-- mapped; there are as many places as pages, or nothing is told
abbrev pub Marks : Option PlanData → ℕ → List ℕ → ℕ → ℕ → Result ℕ ChoiceRefusal → List ℕ → List ℕ
    → Type 0
Marks None task pages cpu mark answer old new = Unit {0}
Marks (Some plan) task pages cpu mark (Ok count) old new = (count ≡ length pages)
    × (length old ≡ count) × (cpu < plan.nodes) × EachIndex new (λ k.
    slice_index new k ≡ first_or mark plan task (slice_index pages k) cpu)
Marks (Some plan) task pages cpu mark (Err (refused.TooShort count)) old new =
    (count ≡ length pages) × (length old ≢ count) × (new ≡ old)
Marks (Some plan) task pages cpu mark (Err (refused.Place cause)) old new =
    (length old ≡ length pages) × (cause ≡ BadCpu) × (plan.nodes ≤ cpu) × (new ≡ old)

-- what is said of its runs: of each at its place in the room for them, whose other places stay; or
-- how many they are, where there is no room
abbrev pub ListsTurns : Option PlanData → ℕ → Result ℕ ℕ → List PageTurns → List PageTurns → Type 0
ListsTurns None task answer old new = Unit {0}
ListsTurns (Some plan) task (Ok count) old new = (count ≡ length plan.runs) × (count ≤ length old)
    × ((place : ℕ) → place < count → TellsTurns plan task (slice_get plan.runs place)
    (slice_get new place))
    × ((place : ℕ) → count ≤ place → slice_get new place ≡ slice_get old place)
ListsTurns (Some plan) task (Err count) old new = (count ≡ length plan.runs) × (length old < count)
    × (new ≡ old)

-- and of how many pages have each node first
abbrev pub Counts : Option PlanData → ℕ → ℕ → ℕ → ℕ → Result (List ℕ) PlaceRefusal → Type 0
Counts None task first pages cpu answer = Unit {0}
Counts (Some plan) task first pages cpu (Ok counts) = (cpu < plan.nodes)
    × IsMapped plan.runs first pages × CountsFirsts plan task first pages cpu counts
Counts (Some plan) task first pages cpu (Err cause) = RefusesSpan plan first pages cpu cause
