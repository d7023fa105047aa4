-- A word isn't of its form exactly where it has no value.
use Rattle.std.specs.Prelude.{◌≡◌, ℕ, ◌+◌, ◌<◌, ◌^◌, ◌/◌, Bool, true, false, not, List, nat_lt}
use Rattle.std.specs.Prelude.{is_some, is_none, cond, Option, Some, None, refl}
use Rattle.std.specs.Option.{option_map}
use Rattle.std.proofs.Common.{sym, ◌∙◌, arith}
use Rattle.std.proofs.lemmas.Bool.Decides.{nat_tests}
use Rattle.numa_script.specs.Causes.{number_misfit, unless_readable}
use Rattle.numa_script.specs.Numbers.{below, number_of, small_of, page_of, node_of, frame_number_of}
use Rattle.numa_script.specs.declared.parameter.Misfit.TheVariants.{TooGreat}
use Rattle.numa_script.proofs.Numerals.{number_found}

either : (b : Bool) (n : ℕ) → is_some (cond b (Some TooGreat) None)
    ≡ is_none (cond (not b) (Some n) None)
either true n = refl
either false n = refl

below_number : (greatest : ℕ) (o : Option ℕ) → is_some (number_misfit greatest o)
    ≡ is_none (below (greatest + 1) o)
below_number greatest None = refl
below_number greatest (Some n) =
    let opposite : nat_lt n (greatest + 1) ≡ not (nat_lt greatest n) = grind (arith, nat_tests) in
    rw opposite (either (nat_lt greatest n) n)

pub small : (word : List ℕ) → is_some (number_misfit 4294967295 (number_of word))
    ≡ is_none (small_of word)
small word = below_number 4294967295 (number_of word)

-- a number is below 2^64
known_number : (o : Option ℕ) → ((n : ℕ) → o ≡ Some n → n < 2 ^ 64)
    → is_some (number_misfit 18446744073709551615 o) ≡ is_none o
known_number None fits = refl
known_number (Some n) fits =
    let few : n < 2 ^ 64 = fits n refl in
    let no : nat_lt 18446744073709551615 n ≡ false = grind (arith, nat_tests) in
    rw no refl

pub pool_count : (word : List ℕ) → is_some (number_misfit 9223372036854775807 (number_of word))
    ≡ is_none (below (2 ^ 63) (number_of word))
pool_count word = below_number 9223372036854775807 (number_of word)

pub span_pages : (word : List ℕ) → is_some (number_misfit 65536 (number_of word))
    ≡ is_none (below 65537 (number_of word))
span_pages word = below_number 65536 (number_of word)

pub node_number : (word : List ℕ) → is_some (number_misfit 255 (number_of word))
    ≡ is_none (node_of word)
node_number word = below_number 255 (number_of word)

pub frame_number : (word : List ℕ) → is_some (number_misfit 65535 (number_of word))
    ≡ is_none (frame_number_of word)
frame_number word = below_number 65535 (number_of word)

pub any_number : (word : List ℕ) → is_some (number_misfit 18446744073709551615 (number_of word))
    ≡ is_none (number_of word)
any_number word = known_number (number_of word) (λ n h. (number_found word n h).0)

none_mapped : {A B : Type 0} (f : A → B) (o : Option A) → is_none (option_map f o) ≡ is_none o
none_mapped f None = refl
none_mapped f (Some x) = refl

pub page : (word : List ℕ) → is_some (number_misfit 18446744073709551615 (number_of word))
    ≡ is_none (page_of word)
page word = any_number word ∙ sym (none_mapped (λ address. address / 4096) (number_of word))

pub readable : {A : Type 0} (o : Option A) → is_some (unless_readable (is_some o)) ≡ is_none o
readable None = refl
readable (Some x) = refl
