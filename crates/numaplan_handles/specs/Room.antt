-- What a copy into a caller's room does.
use Rattle.std.specs.Prelude.{◌≡◌, ◌<◌, ℕ, List, length, take, drop, Result, Ok, Err}

-- the items are at the beginning of the room, which held `old`, or they are more than the room has
abbrev pub Copies : {A : Type 0} → List A → Result ℕ ℕ → List A → List A → Type 0
Copies items (Ok count) old new = (count ≡ length items) × (take count new ≡ items)
    × (drop count new ≡ drop count old)
Copies items (Err count) old new = (count ≡ length items) × (length old < count) × (new ≡ old)
