-- Policies and their rules in numbered slots, which count the runs and tasks that use them.
use Rattle.std.specs.Prelude.{◌≡◌, ℕ, ◌+◌, ◌-◌, ◌<◌, ◌≤◌, Option, Some, None, IsSome, List, [], ◌∷◌}
use Rattle.std.specs.Prelude.{◌++◌, length, slice_set, slice_index_or, nat_lt, if◌then◌else◌}
use Rattle.std.specs.Option.{option_map}
use Rattle.numa_mode.specs.Policy.{PolicyRecord}
use Rattle.numa_plan.specs.Rows.{Kept, RuleData}
use Rattle.numa_plan.specs.declared.slots.Slot.{Slot}
use Rattle.numa_plan.specs.declared.slots.Slot.TheVariants.{Free, Taken}

-- the slot of this number; past the last one all are free
abbrev pub slot_at : List Slot → ℕ → Slot
slot_at slots number = slice_index_or slots number Free

abbrev pub kept_of_slot : Slot → Option Kept
kept_of_slot Free = None
kept_of_slot (Taken uses kept) = Some kept

abbrev pub rule_of_slot : Slot → Option RuleData
rule_of_slot slot = option_map (λ kept. kept.rule) (kept_of_slot slot)

abbrev pub uses_of_slot : Slot → ℕ
uses_of_slot Free = 0
uses_of_slot (Taken uses kept) = uses

-- the policy and the rule in a slot
abbrev pub kept_in : List Slot → ℕ → Option Kept
kept_in slots number = kept_of_slot (slot_at slots number)

-- the rule in a slot
abbrev pub rule_in : List Slot → ℕ → Option RuleData
rule_in slots number = option_map (λ kept. kept.rule) (kept_in slots number)

-- the policy whose rule is in a slot
abbrev pub policy_in : List Slot → ℕ → Option PolicyRecord
policy_in slots number = option_map (λ kept. kept.policy) (kept_in slots number)

-- how many uses a slot counts
abbrev pub uses_in : List Slot → ℕ → ℕ
uses_in slots number = uses_of_slot (slot_at slots number)

-- the slots below this number are all taken
abbrev pub AreTaken : List Slot → ℕ → Type 0
AreTaken slots number = (lower : ℕ) → lower < number → IsSome (rule_in slots lower)

-- the last slot, if there are any, is taken
abbrev pub EndsTaken : List Slot → Type 0
EndsTaken slots = (last : ℕ) → length slots ≡ last + 1 → IsSome (rule_in slots last)

-- the lowest free slot, which is the one behind the last where no other is free
pub record IsLowestFree (slots : List Slot) (number : ℕ) : Type 0 where
  pub within : number ≤ length slots
  pub free : rule_in slots number ≡ None
  pub taken_below : AreTaken slots number

-- ---- what the building calls make of slots

-- a slot written, at a number that is there or behind the last
abbrev pub put_slot : List Slot → ℕ → Slot → List Slot
put_slot slots number slot = if nat_lt number (length slots) then slice_set slots number slot
    else slots ++ slot ∷ []

abbrev pub one_use_more : Slot → Slot
one_use_more Free = Free
one_use_more (Taken uses kept) = Taken (uses + 1) kept

abbrev pub one_use_less : Slot → Slot
one_use_less Free = Free
one_use_less (Taken uses kept) = Taken (uses - 1) kept

-- the slots with one use more of a number, if one is given
abbrev pub with_use : List Slot → Option ℕ → List Slot
with_use slots None = slots
with_use slots (Some number) = slice_set slots number (one_use_more (slot_at slots number))

-- the slots with one use less of a number, if one is given
abbrev pub with_use_less : List Slot → Option ℕ → List Slot
with_use_less slots None = slots
with_use_less slots (Some number) = slice_set slots number (one_use_less (slot_at slots number))
