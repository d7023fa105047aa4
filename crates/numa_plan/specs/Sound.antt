-- What holds of every plan.
use Rattle.std.specs.Prelude.{◌≡◌, ℕ, ◌+◌, ◌≤◌, ◌==◌, Option, Some, List, length, count_by}
use Rattle.std.specs.Map.{values_of}
use Rattle.numa_ranges.specs.declared.run.Run.{Run}
use Rattle.numa_plan.specs.Rows.{RuleData, HasRows}
use Rattle.numa_plan.specs.Meaning.{is_number}
use Rattle.numa_plan.specs.Slots.{rule_in, uses_in, AreTaken, EndsTaken}
use Rattle.numa_plan.specs.declared.slots.Slot.{Slot}

-- how many runs and tasks name a slot
abbrev pub uses_of : List (Run (Option ℕ)) → List (ℕ × ℕ) → ℕ → ℕ
uses_of runs tasks number = count_by (λ run. is_number number run.value) runs + count_by (λ other.
    other == number) (values_of tasks)

pub record IsPlan (nodes : ℕ) (runs : List (Run (Option ℕ))) (slots : List Slot) (lowest_free : ℕ)
    (tasks : List (ℕ × ℕ)) (local : RuleData) : Type 0 where
  -- each slot counts the runs and tasks that name it; so none of them names a free slot that counts
  -- no use
  pub counted : (number : ℕ) → uses_in slots number ≡ uses_of runs tasks number
  -- each rule has its rows
  pub rows : (number : ℕ) (rule : RuleData) → rule_in slots number ≡ Some rule → HasRows nodes rule
  pub local_rows : HasRows nodes local
  -- no slot is free below the one at which the search for a free one begins
  pub within : lowest_free ≤ length slots
  pub taken_below : AreTaken slots lowest_free
  pub ends : EndsTaken slots
