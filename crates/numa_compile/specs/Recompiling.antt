-- What recompiling for a change writes into a plan, and what it leaves there as it was.
use Rattle.std.specs.Prelude.{◌≡◌, ◌≢◌, ℕ, ◌+◌, ◌≤◌, ◌⊎◌, Bool, true, false, Option, Some, None}
use Rattle.std.specs.Prelude.{List, count_by, slice_get}
use Rattle.std.specs.Option.{ForSome}
use Rattle.numa_mode.specs.Policy.{PolicyRecord}
use Rattle.numa_mode.specs.declared.modes.Mode.{Mode}
use Rattle.numa_mode.specs.declared.modes.Mode.TheVariants.{WeightedInterleave}
use Rattle.numa_ranges.specs.Windows.{met}
use Rattle.numa_ranges.specs.declared.run.Run.{Run}
use Rattle.numa_space.specs.declared.change.Change.{Change}
use Rattle.numa_space.specs.declared.change.Change.TheVariants.{Nothing, Mapped, Unmapped, Bound}
use Rattle.numa_space.specs.declared.change.Change.TheVariants.{Homed, TaskSet, Weighed, Allowed}
use Rattle.numa_space.specs.declared.change.ChangedPages.{ChangedPages}
use Rattle.numa_requests.specs.declared.command.Command.{Command}
use Rattle.numa_requests.specs.declared.command.Command.TheVariants.{SetTask, Inherit}
use Rattle.numa_space.specs.Standing.{SpaceState}
use Rattle.numa_plan.specs.Building.{with_rule}
use Rattle.numa_plan.specs.Counted.{Counted}
use Rattle.numa_plan.specs.Editing.{IsUnnamed}
use Rattle.numa_plan.specs.Meaning.{PlanData, number_of}
use Rattle.numa_plan.specs.Rows.{HasRows, Kept}
use Rattle.numa_plan.specs.Slots.{kept_in, policy_in, EndsTaken, IsLowestFree}
use Rattle.numa_plan.specs.declared.slots.Slot.{Slot}
use Rattle.numa_plan.specs.declared.slots.Slot.TheVariants.{Free, Taken}
use Rattle.numa_compile.specs.Sharing.{IsServing}

-- ---- policies whose lists depend on the nodes' weights

abbrev pub is_weighted_mode : Mode → Bool
is_weighted_mode WeightedInterleave = true
is_weighted_mode _ = false

abbrev pub is_weighted : PolicyRecord → Bool
is_weighted r = is_weighted_mode r.spec.mode

-- whether a slot has a rule of weighted interleave
abbrev pub holds_weighted : Slot → Bool
holds_weighted Free = false
holds_weighted (Taken uses kept) = is_weighted kept.policy

-- ---- what is written

-- how many runs of a plan have one of the pages
abbrev pub met_by : ChangedPages → PlanData → ℕ
met_by pages plan = met pages.first pages.end plan.runs

-- at most so many rules, and no run; no count falls
pub record WritesRules (few_rules : ℕ) (old new : Counted) : Type 0 where
  pub compares : old.comparisons ≤ new.comparisons
  pub runs : new.runs ≡ old.runs
  pub rules : new.rules ≤ old.rules + few_rules
  pub rules_rise : old.rules ≤ new.rules

-- at most so many runs, and so many rules; no count falls
pub record WritesBoth (few_runs few_rules : ℕ) (old new : Counted) : Type 0 where
  pub compares : old.comparisons ≤ new.comparisons
  pub runs : new.runs ≤ old.runs + few_runs
  pub runs_rise : old.runs ≤ new.runs
  pub rules : new.rules ≤ old.rules + few_rules
  pub rules_rise : old.rules ≤ new.rules

-- no count falls
pub record Rises (old new : Counted) : Type 0 where
  pub compares : old.comparisons ≤ new.comparisons
  pub runs : old.runs ≤ new.runs
  pub rules : old.rules ≤ new.rules

-- how much is written for a change at most: for pages a run for each that has one of them, and two
-- for the runs beside them; for a policy of theirs one rule, and for a home node one for each of
-- these runs; for a task one rule; for a weight the rules of weighted interleave. After a change of
-- the allowed nodes all may be written, but no count falls
abbrev pub WritesFew : Change → PlanData → Counted → Counted → Type 0
WritesFew Nothing plan old new = new ≡ old
WritesFew (Mapped pages) plan old new = WritesBoth (met_by pages plan + 2) 0 old new
WritesFew (Unmapped pages) plan old new = WritesBoth (met_by pages plan + 2) 0 old new
WritesFew (Bound pages policy) plan old new = WritesBoth (met_by pages plan + 2) 1 old new
WritesFew (Homed pages node) plan old new =
    WritesBoth (met_by pages plan + 2) (met_by pages plan) old new
WritesFew (TaskSet task policy) plan old new = WritesRules 1 old new
WritesFew (Weighed node weight) plan old new =
    WritesRules (count_by holds_weighted plan.slots) old new
WritesFew (Allowed nodes) plan old new = Rises old new

-- ---- what stays

-- the command gives this task another policy
abbrev pub GivesTask : ℕ → Command → Type 0
GivesTask task (SetTask other spec) = other ≡ task
GivesTask task (Inherit other from) = other ≡ task
GivesTask task _ = ⊥

-- the runs stay, and each other task keeps its rule's number
pub record KeepsRuns (task : ℕ) (old new : PlanData) : Type 0 where
  pub runs : new.runs ≡ old.runs
  pub tasks : (other : ℕ) → other ≢ task → number_of new.tasks other ≡ number_of old.tasks other

-- the runs and the tasks stay, and each rule whose policy doesn't depend on the weights
pub record KeepsUnweighted (old new : PlanData) : Type 0 where
  pub runs : new.runs ≡ old.runs
  pub tasks : new.tasks ≡ old.tasks
  pub rules : (number : ℕ) (kept : Kept) → kept_in old.slots number ≡ Some kept
      → is_weighted kept.policy ≡ false → kept_in new.slots number ≡ Some kept

-- what stays in the plan as it was
abbrev pub KeepsOthers : Change → PlanData → PlanData → Type 0
KeepsOthers Nothing old new = new ≡ record old { version = new.version }
KeepsOthers (Mapped pages) old new = new.tasks ≡ old.tasks
KeepsOthers (Unmapped pages) old new = new.tasks ≡ old.tasks
KeepsOthers (Bound pages policy) old new = new.tasks ≡ old.tasks
KeepsOthers (Homed pages node) old new = new.tasks ≡ old.tasks
KeepsOthers (TaskSet task policy) old new = KeepsRuns task old new
KeepsOthers (Weighed node weight) old new = KeepsUnweighted old new
KeepsOthers (Allowed nodes) old new = Unit {0}

-- ---- rules that come and go

-- a rule was added in the lowest free slot, which serves its policy
pub record IsAdded (space : SpaceState) (old : PlanData) (number : ℕ) (new : PlanData) : Type 0
  where
    pub lowest : IsLowestFree old.slots number
    pub ends : EndsTaken old.slots
    pub kept : Kept
    pub serving : IsServing space kept
    pub grown : new ≡ with_rule old number kept

-- the rule of this number was added, or none
abbrev pub WasAdded : SpaceState → PlanData → Option ℕ → PlanData → Type 0
WasAdded space old None new = new ≡ old
WasAdded space old (Some number) new = IsAdded space old number new

-- what a slot keeps is the same still, or it was given up, where no run and no task names it
abbrev pub KeepsNamed : PlanData → PlanData → Type 0
KeepsNamed old new = (number : ℕ) → (kept_in new.slots number ≡ kept_in old.slots number)
    ⊎ (IsUnnamed old number × (kept_in new.slots number ≡ None))

-- ---- rules whose weights changed

-- the new rule for what stands in a slot: one that serves the same policy where that depends on the
-- weights, else none
abbrev pub IsRenewed : SpaceState → Option PolicyRecord → Option Kept → Type 0
IsRenewed space policy None = ForSome policy (λ r. is_weighted r ≡ false)
IsRenewed space policy (Some kept) = (policy ≡ Some kept.policy) × (is_weighted kept.policy ≡ true)
    × IsServing space kept × HasRows space.machine.nodes kept.rule

-- the new rules for the slots, by their places
abbrev pub AreRenewed : SpaceState → List Slot → List (Option Kept) → Type 0
AreRenewed space slots rules = (place : ℕ) (rule : Option Kept) → slice_get rules place ≡ Some rule
    → IsRenewed space (policy_in slots place) rule

abbrev pub one_if_some : Option Kept → ℕ
one_if_some None = 0
one_if_some (Some kept) = 1
