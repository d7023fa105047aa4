-- The bits of a mode word.
use Rattle.std.proofs.Common.{◌≡◌, ℕ, zero, suc, ◌*◌, ◌^◌, ◌<◌, Bool, true, false, eqb, bit_and}
use Rattle.std.proofs.Common.{refl, ap, ◌∙◌, arith}
use Rattle.std.proofs.lemmas.Bool.Decides.{nat_tests}
use Rattle.std.specs.Int.{bit_at}
use Rattle.std.proofs.lemmas.Nat.Bits.{and_pow, bit_at-lt, bit_at_and}
use Rattle.std.proofs.lemmas.Nat.{pow_pos}
use Rattle.numa_mode.specs.Policy.{raw_specification, specification_of, word_of}
use Rattle.numa_mode.specs.declared.modes.Mode.{Mode}
use Rattle.numa_mode.specs.declared.modes.Mode.TheVariants.{Default, Preferred, Bind, Interleave}
use Rattle.numa_mode.specs.declared.modes.Mode.TheVariants.{Local, PreferredMany}
use Rattle.numa_mode.specs.declared.modes.Mode.TheVariants.{WeightedInterleave}

one_digit : (b p : ℕ) → b < 2 → 0 < p → eqb (b * p) p ≡ eqb b 1
one_digit zero p small some = grind (arith, nat_tests)
one_digit (suc zero) p small some = grind (arith, nat_tests)
one_digit (suc (suc b)) p small some = absurd (omega arith)

-- the test for a flag of one bit
pub flag_test : (n k : ℕ) → eqb (bit_and n (2 ^ k)) (2 ^ k) ≡ eqb (bit_at n k) 1
flag_test n k = ap (λ x. eqb x (2 ^ k)) (and_pow n k)
    ∙ one_digit (bit_at n k) (2 ^ k) (bit_at-lt n k) (pow_pos k)

-- the word of a mode and its flags asks for what they ask for
pub raw_specification-word_of : (mode : Mode) (static relative : Bool) (mask : ℕ)
    → raw_specification (word_of mode static relative) mask ≡ specification_of mode static relative
    mask
raw_specification-word_of Default true true mask = refl
raw_specification-word_of Default true false mask = refl
raw_specification-word_of Default false true mask = refl
raw_specification-word_of Default false false mask = refl
raw_specification-word_of Preferred true true mask = refl
raw_specification-word_of Preferred true false mask = refl
raw_specification-word_of Preferred false true mask = refl
raw_specification-word_of Preferred false false mask = refl
raw_specification-word_of Bind true true mask = refl
raw_specification-word_of Bind true false mask = refl
raw_specification-word_of Bind false true mask = refl
raw_specification-word_of Bind false false mask = refl
raw_specification-word_of Interleave true true mask = refl
raw_specification-word_of Interleave true false mask = refl
raw_specification-word_of Interleave false true mask = refl
raw_specification-word_of Interleave false false mask = refl
raw_specification-word_of Local true true mask = refl
raw_specification-word_of Local true false mask = refl
raw_specification-word_of Local false true mask = refl
raw_specification-word_of Local false false mask = refl
raw_specification-word_of PreferredMany true true mask = refl
raw_specification-word_of PreferredMany true false mask = refl
raw_specification-word_of PreferredMany false true mask = refl
raw_specification-word_of PreferredMany false false mask = refl
raw_specification-word_of WeightedInterleave true true mask = refl
raw_specification-word_of WeightedInterleave true false mask = refl
raw_specification-word_of WeightedInterleave false true mask = refl
raw_specification-word_of WeightedInterleave false false mask = refl

-- a bit that a mask has is kept
pub bit_at-kept : (word mask k : ℕ) → bit_at mask k ≡ 1 → bit_at (bit_and word mask) k
    ≡ bit_at word k
bit_at-kept word mask k one = omega (arith, bit_at_and word mask k, bit_at-lt word k)
