-- The flags of a mode word, by name.
use Rattle.std.specs.Prelude.{ℕ, Bool, ◌==◌}
use Rattle.std.specs.Int.{bit_at}
use Rattle.numa_mode.specs.declared.flags.PolicyFlags.{PolicyFlags}

-- the bits of a value of flags
abbrev pub bits_of : PolicyFlags → ℕ
bits_of flags = flags.0

abbrev pub has_static : PolicyFlags → Bool
has_static flags = bit_at (bits_of flags) 15 == 1

abbrev pub has_relative : PolicyFlags → Bool
has_relative flags = bit_at (bits_of flags) 14 == 1
