-- What an exported call that writes a text does.
use Rattle.std.specs.Prelude.{◌≡◌, ◌≢◌, ℕ, List, [], Result, Ok, Err}
use Rattle.numaplan_handles.specs.Room.{Copies}

abbrev pub copy_code : Result ℕ ℕ → ℕ
copy_code (Ok count) = 0
copy_code (Err count) = 4

abbrev pub length_copied : Result ℕ ℕ → ℕ
length_copied (Ok count) = count
length_copied (Err count) = count

-- the text is at the beginning of the room, or there was no room for it; its length is returned
abbrev pub IsWritten : List ℕ → ℕ → List ℕ → List ℕ → ℕ → Type 0
IsWritten text code old new count = (told : Result ℕ ℕ) × (code ≡ copy_code told)
    × (count ≡ length_copied told) × Copies text told old new

-- the same of what a number says; where it says nothing, nothing is written
abbrev pub IsTold : List ℕ → ℕ → List ℕ → List ℕ → ℕ → ℕ → Type 0
IsTold text code old new before after = (text ≢ [] → IsWritten text code old new after)
    × (text ≡ [] → (code ≡ 5) × (new ≡ old) × (after ≡ before))
