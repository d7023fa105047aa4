-- What the definitions give for the examples of the kernel's "NUMA Memory Policy" document. A set
-- is the number of its bits.
use Rattle.std.proofs.Common.{◌≡◌, Err, Ok, refl}
use Rattle.numa_mask.specs.NodeSet.{members}
use Rattle.numa_machine.specs.declared.rules.Rules.TheVariants.{Document}
use Rattle.numa_mode.specs.Policy.{Specification, effect_when_set, effect_after, raw_specification}
use Rattle.numa_mode.specs.declared.modes.Mode.TheVariants.{Default, Bind, Interleave}
use Rattle.numa_mode.specs.declared.modes.NodeFlag.TheVariants.{Plain, Static, Relative}
use Rattle.numa_mode.specs.declared.specification.SpecError.TheVariants.{UnknownMode, BothFlags}
use Rattle.numa_mode.specs.declared.specification.SpecError.TheVariants.{FlagsForbidden}
use Rattle.numa_mode.specs.declared.specification.SpecError.TheVariants.{NodesMissing}

-- relative nodes 2-5
abbrev relative : Specification
relative = record { mode = Interleave; flag = Relative; mask = 0b111100 }

-- within 2-5 they are 2-5
relative-first : effect_when_set relative 0b111100 ≡ 0b111100
unfolding members
relative-first = refl

-- within 3-7 then 3,5-7
relative-second : effect_after Document relative 0b111100 0b111100 0b11111000 ≡ 0b11101000
unfolding members
relative-second = refl

-- within 0,2-3,5 then all of these
relative-third : effect_after Document relative 0b11101000 0b11111000 0b101101 ≡ 0b101101
unfolding members
relative-third = refl

-- nodes 1,3,5 without a flag
abbrev plain : Specification
plain = record { mode = Interleave; flag = Plain; mask = 0b101010 }

-- within 1-5 they are 1,3,5; within 7-9 then 7-9; within 1-5 again 1-3
plain-first : effect_when_set plain 0b111110 ≡ 0b101010
unfolding members
plain-first = refl

plain-second : effect_after Document plain 0b101010 0b111110 0b1110000000 ≡ 0b1110000000
unfolding members
plain-second = refl

plain-third : effect_after Document plain 0b1110000000 0b1110000000 0b111110 ≡ 0b1110
unfolding members
plain-third = refl

-- mode words
word-static : raw_specification 0x8002 0b10
    ≡ Ok (record { mode = Bind; flag = Static; mask = 0b10 })
word-static = refl

word-both : raw_specification 0xc002 0b10 ≡ Err BothFlags
word-both = refl

word-bit_13 : raw_specification 0x2002 0b10 ≡ Err UnknownMode
word-bit_13 = refl

word-default : raw_specification 0x8000 0 ≡ Ok (record { mode = Default; flag = Plain; mask = 0 })
word-default = refl

word-preferred : raw_specification 0x8001 0 ≡ Err FlagsForbidden
word-preferred = refl

word-interleave : raw_specification 3 0 ≡ Err NodesMissing
word-interleave = refl
