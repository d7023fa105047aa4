-- What a closure makes of a value.
use Rattle.std.specs.Prelude.{◌≡◌}
use Rattle.std.specs.Fn.{Shared, FnReturnsAt}
use denote.Ref.{Bor}

-- what a closure makes of a value is what the function makes of it
abbrev pub Makes : {F T R : Type 0} → Shared F (Bor T × Unit {0}) R → F → (T → R) → Type 0
Makes {F} {T} {R} calls f change = (value : T) (made : R) → FnReturnsAt calls f value made
    → made ≡ change value
