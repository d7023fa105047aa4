-- What a call of a handle answers and does, whatever it keeps. `told` says so of an open handle; a
-- closed one gives no answer.
use Rattle.std.specs.Prelude.{◌≡◌, true, Option, Some, None, Result, is_some, MatchOption, OnOk}
use Rattle.std.specs.Prelude.{OnErr}

-- what was to be kept is kept; where it is refused, nothing is
abbrev pub Keeps : {K E : Type 0} → K → Result (Unit {0}) E → Option K → Type 0
Keeps value answer kept = OnOk answer (kept ≡ Some value) × OnErr answer (kept ≡ None)

-- the answer to a question of what is kept
abbrev pub Reads : {K A : Type 0} → (A → Type 0) → Option K → Option A → Type 0
Reads told kept answer = (kept ≡ None → answer ≡ None) × MatchOption answer (kept ≡ None) told

-- a question that takes what is kept out, and leaves it as it was
abbrev pub Asks : {K A : Type 0} → (A → Type 0) → Option K → Option A → Option K → Type 0
Asks told old answer new = (new ≡ old) × Reads told old answer

-- any other call may change it, but a closed handle stays closed
abbrev pub Calls : {K A : Type 0} → (Option K → Option K → A → Type 0) → Option K → Option A
    → Option K → Type 0
Calls told old answer new = (old ≡ None → (answer ≡ None) × (new ≡ None))
    × MatchOption answer (old ≡ None) (told old new)

-- another handle, which is closed, is to keep what one keeps; where it is refused, it stays closed
abbrev pub IsShared : {K E : Type 0} → Option K → Option (Result (Unit {0}) E) → Option K → Type 0
IsShared kept answer other = (kept ≡ None → answer ≡ None)
    × MatchOption answer (kept ≡ None) (λ it. is_some kept ≡ true)
    × MatchOption answer (other ≡ None)
    (λ it. OnOk it (other ≡ kept) × OnErr it (other ≡ None))
