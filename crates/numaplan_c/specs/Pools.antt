-- What an exported call on a seat at pools of frames answers and does.
use Rattle.std.specs.Prelude.{◌≡◌, ℕ, Bool, true, false, Option, Some, None}
use Rattle.numa_machine.specs.declared.frame.Frame.{Frame}
use Rattle.numaplan_c.specs.declared.pools.NpFrame.{NpFrame}

-- the number of an answer to a search for a frame, and what it tells: the frame, and the place of
-- its node in the list
abbrev pub found_code : Option (ℕ × Frame) → ℕ
found_code None = 42
found_code (Some found) = 0

abbrev pub Tells : Option (ℕ × Frame) → NpFrame → NpFrame → ℕ → ℕ → Type 0
Tells None old new rank told = (new ≡ old) × (told ≡ rank)
Tells (Some found) old new rank told =
    (new ≡ record { node = found.1.node; number = found.1.number }) × (told ≡ found.0)

-- the number of an answer to a frame that is given back
abbrev pub returned_code : Bool → ℕ
returned_code true = 0
returned_code false = 34
