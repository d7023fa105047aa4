-- How the runs and tasks of a space become those of a plan.
use Rattle.std.specs.Prelude.{◌≡◌, ◌≢◌, ◌↔◌, AllPairs, ℕ, ◌⊎◌, Option, Some, None, List, [], ◌∷◌}
use Rattle.std.specs.Prelude.{◌++◌, length, Contains, slice_get, slice_index_or}
use Rattle.numa_mode.specs.Policy.{PolicyRecord}
use Rattle.numa_ranges.specs.declared.run.Run.{Run}
use Rattle.numa_space.specs.Policies.{where_live}
use Rattle.numa_space.specs.Standing.{SpaceState, record_of, setting_in}
use Rattle.numa_plan.specs.Meaning.{PlanData, number_of}
use Rattle.numa_compile.specs.Rules.{IsRuleOf}
use Rattle.numa_plan.specs.Slots.{kept_in, policy_in}
use Rattle.numa_compile.specs.Sharing.{AreServed, AreServing, IsUsed}

-- the number of a rule for a policy: one at which its record stands; none without a policy
abbrev pub IsNumber : (ℕ → Option PolicyRecord) → Option PolicyRecord → Option ℕ → Type 0
IsNumber at None number = number ≡ None
IsNumber at (Some r) number = (place : ℕ) × (number ≡ Some place) × (at place ≡ Some r)

-- what is known of a value under its number is a number of a rule for the value
abbrev pub AreKnown : (ℕ → Option PolicyRecord) → List (Option PolicyRecord)
    → List (Option (Option ℕ)) → Type 0
AreKnown at values known = (value : ℕ) (number : Option ℕ)
    → slice_index_or known value None ≡ Some number
    → IsNumber at (where_live (slice_index_or values value None)) number

-- the run has the pages and indexes of the range, and the rule of its policy, where that is live
pub record IsCopy (at : ℕ → Option PolicyRecord) (range : Run (Option PolicyRecord))
    (run : Run (Option ℕ)) : Type 0 where
  pub first : run.first ≡ range.first
  pub pages : run.pages ≡ range.pages
  pub index : run.index ≡ range.index
  pub value : IsNumber at (where_live range.value) run.value

-- one run for each range
abbrev pub AreCopies : (ℕ → Option PolicyRecord) → List (Run (Option PolicyRecord))
    → List (Run (Option ℕ)) → Type 0
AreCopies at [] [] = Unit {0}
AreCopies at [] (run ∷ runs) = ⊥
AreCopies at (range ∷ ranges) [] = ⊥
AreCopies at (range ∷ ranges) (run ∷ runs) =
    IsCopy at range run × AreCopies at ranges runs

-- each task has the rule of its policy, where that is live
abbrev pub HasTasks : (ℕ → Option PolicyRecord) → List (ℕ × PolicyRecord) → PlanData → Type 0
HasTasks at tasks plan = (task : ℕ) → IsNumber at (where_live (record_of tasks task))
    (number_of plan.tasks task)

-- there are as many slots as records, the policy in the slot of each place is the record there, and
-- its rule serves it
pub record Serves (space : SpaceState) (plan : PlanData)
    (records : List PolicyRecord) : Type 0 where
  pub as_many : length plan.slots ≡ length records
  pub policies : (number : ℕ) → policy_in plan.slots number ≡ slice_get records number
  pub serving : AreServing space plan.slots

-- the records once one more policy was looked up: the same, or with its record behind them
abbrev pub Grows : List PolicyRecord → Option PolicyRecord → List PolicyRecord → Type 0
Grows old policy new = (new ≡ old) ⊎ ((r : PolicyRecord) × (where_live policy ≡ Some r)
    × (new ≡ old ++ r ∷ []))

-- each record is that of a range or of a task
abbrev pub AreUsed : SpaceState → List PolicyRecord → Type 0
AreUsed space records = (r : PolicyRecord) → Contains records r → IsUsed space r

-- what holds of a plan and its records while a space is copied into it
pub record IsUnderWay (space : SpaceState) (plan : PlanData)
    (records : List PolicyRecord) : Type 0 where
  pub nodes : plan.nodes ≡ space.machine.nodes
  pub local : IsRuleOf (setting_in space) plan.local None
  pub serves : Serves space plan records
  pub used : AreUsed space records

-- a plan has other runs than before, its slots may count other uses, and no more
pub record HasRunsMore (old new : PlanData) : Type 0 where
  pub rest : new ≡ record old { runs = new.runs; slots = new.slots }
  pub kept : (number : ℕ) → kept_in new.slots number ≡ kept_in old.slots number
  pub as_many : length new.slots ≡ length old.slots

-- the plan's rules are one for each distinct live record of ranges and tasks, and no more: the
-- slots serve these records one by one. Its runs are the ranges, one by one, each with the rule of
-- its record, and its tasks are the space's
pub record SharesRules (space : SpaceState) (plan : PlanData) : Type 0 where
  pub records : List PolicyRecord
  pub each_once : AllPairs (λ earlier later. earlier ≢ later) records
  pub exactly : (r : PolicyRecord) → Contains records r ↔ IsUsed space r
  pub as_many : length plan.slots ≡ length records
  pub served : AreServed (setting_in space) plan (slice_get records)
  pub copies : AreCopies (slice_get records) space.ranges plan.runs
  pub tasks : HasTasks (slice_get records) space.tasks plan
