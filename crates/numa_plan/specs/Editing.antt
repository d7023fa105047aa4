-- What the editing calls make of a plan's data.
use Rattle.std.specs.Prelude.{◌≢◌, ℕ, Option, Some, List, [], ◌∷◌, All, slice_set}
use Rattle.std.specs.List.{slice_range, splice}
use Rattle.numa_ranges.specs.declared.run.Run.{Run}
use Rattle.numa_plan.specs.Rows.{Kept}
use Rattle.numa_plan.specs.Meaning.{PlanData, number_of}
use Rattle.numa_plan.specs.Slots.{slot_at, with_use, with_use_less}
use Rattle.numa_plan.specs.declared.slots.Slot.{Slot}
use Rattle.numa_plan.specs.declared.slots.Slot.TheVariants.{Free, Taken}

-- no run and no task names the number
pub record IsUnnamed (plan : PlanData) (number : ℕ) : Type 0 where
  pub runs : All (λ run. run.value ≢ Some number) plan.runs
  pub tasks : (task : ℕ) → number_of plan.tasks task ≢ Some number

-- the slots with one use more of a number for each run that names it
abbrev pub with_uses : List Slot → List (Run (Option ℕ)) → List Slot
with_uses slots [] = slots
with_uses slots (run ∷ runs) = with_uses (with_use slots run.value) runs

-- the slots with one use less of a number for each run that names it
abbrev pub with_uses_less : List Slot → List (Run (Option ℕ)) → List Slot
with_uses_less slots [] = slots
with_uses_less slots (run ∷ runs) = with_uses_less (with_use_less slots run.value) runs

-- the plan with runs in the place of those from one place to another
abbrev pub with_runs : PlanData → ℕ → ℕ → List (Run (Option ℕ)) → PlanData
with_runs plan from to runs = record plan {
  runs = splice plan.runs from to runs;
  slots = with_uses_less (with_uses plan.slots runs) (slice_range plan.runs from to);
}

-- a taken slot with another rule, and its uses
abbrev pub with_other : Slot → Kept → Slot
with_other Free kept = Free
with_other (Taken uses old) kept = Taken uses kept

-- the plan with another rule in a slot
abbrev pub with_written : PlanData → ℕ → Kept → PlanData
with_written plan number kept = record plan {
  slots = slice_set plan.slots number (with_other (slot_at plan.slots number) kept);
}

-- a slot before others, but none where it is free and there are no others
abbrev pub before_others : Slot → List Slot → List Slot
before_others Free [] = []
before_others Free (slot ∷ slots) = Free ∷ slot ∷ slots
before_others (Taken uses kept) slots = Taken uses kept ∷ slots

-- the slots up to the last that is taken
abbrev pub up_to_last_taken : List Slot → List Slot
up_to_last_taken [] = []
up_to_last_taken (slot ∷ slots) = before_others slot (up_to_last_taken slots)

-- the plan without the rule in a slot
abbrev pub without_rule : PlanData → ℕ → PlanData
without_rule plan number = record plan {
  slots = up_to_last_taken (slice_set plan.slots number Free);
}
