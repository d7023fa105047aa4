-- What the building calls make of a plan's data.
use Rattle.std.specs.Prelude.{ℕ, Option, Some, None, List, [], ◌∷◌, ◌++◌}
use Rattle.std.specs.Ordering.{nat_cmp}
use Rattle.std.specs.BTreeMap.{is_at, insert_entry}
use Rattle.std.specs.Map.{remove_entry}
use Rattle.numa_ranges.specs.declared.run.Run.{Run}
use Rattle.numa_plan.specs.Rows.{Kept, RuleData}
use Rattle.numa_plan.specs.Meaning.{PlanData, number_of}
use Rattle.numa_plan.specs.Slots.{put_slot, with_use, with_use_less}
use Rattle.numa_plan.specs.declared.slots.Slot.TheVariants.{Taken}

-- a plan of version 0 without runs, rules and tasks
abbrev pub empty_plan : ℕ → RuleData → PlanData
empty_plan nodes local = record {
  version = 0;
  nodes = nodes;
  runs = [];
  slots = [];
  tasks = [];
  local = local;
}

-- the plan with a policy's rule in a slot, which nothing uses yet
abbrev pub with_rule : PlanData → ℕ → Kept → PlanData
with_rule plan number kept = record plan { slots = put_slot plan.slots number (Taken 0 kept) }

-- the plan with one run more, behind the others
abbrev pub with_run : PlanData → Run (Option ℕ) → PlanData
with_run plan run = record plan {
  runs = plan.runs ++ run ∷ [];
  slots = with_use plan.slots run.value;
}

-- the tasks, of which one has the rule of this number, or no rule
abbrev pub set_number : List (ℕ × ℕ) → ℕ → Option ℕ → List (ℕ × ℕ)
set_number tasks task None = remove_entry (is_at (nat_cmp task)) tasks
set_number tasks task (Some number) = insert_entry nat_cmp tasks task number

-- the plan with another rule for a task, or without one
abbrev pub with_task : PlanData → ℕ → Option ℕ → PlanData
with_task plan task number = record plan {
  tasks = set_number plan.tasks task number;
  slots = with_use_less (with_use plan.slots number) (number_of plan.tasks task);
}
