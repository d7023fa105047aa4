-- How records share rules.
use Rattle.std.specs.Prelude.{◌≡◌, ℕ, ◌<◌, ◌⊎◌, true, Option, Some, List, Contains}
use Rattle.numa_mode.specs.Policy.{PolicyRecord, is_live}
use Rattle.numa_ranges.specs.declared.run.Run.{Run}
use Rattle.numa_space.specs.Lists.{Setting, list_for}
use Rattle.numa_space.specs.Standing.{SpaceState, IsInForce, record_of, setting_in}
use Rattle.numa_plan.specs.Rows.{Kept, RuleData, row_of}
use Rattle.numa_plan.specs.Slots.{kept_in, rule_in}
use Rattle.numa_plan.specs.Meaning.{PlanData}
use Rattle.numa_plan.specs.declared.slots.Slot.{Slot}

-- the rule gives the record's lists, for each faulting node and index
abbrev pub GivesLists : Setting → RuleData → PolicyRecord → Type 0
GivesLists setting rule r = (cpu index : ℕ) → cpu < setting.machine.nodes
    → row_of rule cpu index ≡ list_for setting (Some r) cpu index

-- the slot of this number has a rule that gives the record's lists
abbrev pub IsServed : Setting → PlanData → ℕ → PolicyRecord → Type 0
IsServed setting plan number r = (rule : RuleData) × (rule_in plan.slots number ≡ Some rule)
    × GivesLists setting rule r

-- the slot of each number serves the record that stands at it
abbrev pub AreServed : Setting → PlanData → (ℕ → Option PolicyRecord) → Type 0
AreServed setting plan at = (number : ℕ) (r : PolicyRecord) → at number ≡ Some r
    → IsServed setting plan number r

-- the policy is live and in force, and the rule gives its lists
pub record IsServing (space : SpaceState) (kept : Kept) : Type 0 where
  pub live : is_live kept.policy ≡ true
  pub in_force : IsInForce space.machine space.allowed kept.policy
  pub gives : GivesLists (setting_in space) kept.rule kept.policy

-- the rule in each slot, used or not, serves the policy beside it
abbrev pub AreServing : SpaceState → List Slot → Type 0
AreServing space slots = (number : ℕ) (kept : Kept) → kept_in slots number ≡ Some kept
    → IsServing space kept

-- a range or a task has the record, and it is live
abbrev pub IsUsed : SpaceState → PolicyRecord → Type 0
IsUsed space r = (is_live r ≡ true) × (((run : Run (Option PolicyRecord))
    × Contains space.ranges run × (run.value ≡ Some r)) ⊎
    ((task : ℕ) × (record_of space.tasks task ≡ Some r)))
