-- What an exported question about a plan answers.
use Rattle.std.specs.Prelude.{◌≡◌, ℕ, Result, Ok, Err}
use Rattle.numa_machine.specs.declared.refusal.PlaceRefusal.{PlaceRefusal}
use Rattle.numaplan_handles.specs.declared.plan_view.ChoiceRefusal.{ChoiceRefusal}
use Rattle.numaplan_handles.specs.declared.plan_view.ChoiceRefusal.TheVariants as refused
use Rattle.numaplan_c.specs.Codes.{place_code}

abbrev pub choice_code : Result ℕ ChoiceRefusal → ℕ
choice_code (Ok count) = 0
choice_code (Err (refused.TooShort count)) = 4
choice_code (Err (refused.Place cause)) = place_code cause

abbrev pub fill_code : Result (Unit {0}) PlaceRefusal → ℕ
fill_code (Ok done) = 0
fill_code (Err cause) = place_code cause

-- the number of nodes of the list is returned if there is one, room or not
abbrev pub AreTold : Result ℕ ChoiceRefusal → ℕ → ℕ → Type 0
AreTold (Ok count) old new = new ≡ count
AreTold (Err (refused.TooShort count)) old new = new ≡ count
AreTold (Err (refused.Place cause)) old new = new ≡ old
