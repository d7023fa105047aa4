use Rattle.std.specs.Prelude.{◌≡◌, ◌==◌, ℕ, ◌+◌, ◌*◌, ◌^◌, ◌<◌, ◌≤◌, Bool, List, [], ◌∷◌, length}
use Rattle.std.specs.Prelude.{take, drop, Option, Some, None, nat_lt, MatchOption, true, false}
use Rattle.std.specs.Prelude.{cond, refl, ◌++◌, codes, ◌≢◌, suc, ◌&&◌}
use Rattle.std.proofs.Common.{sym, ◌∙◌, ap, arith, get_or, subst, inl, inr}
use Rattle.std.specs.Char.{is_digit, digit_value}
use Rattle.std.specs.List.{list_all}
use Rattle.std.specs.Str.Parse.{digits_value}
use Rattle.std.proofs.lemmas.List.Folds.{list_all_at, list_all_more}
use Rattle.std.proofs.lemmas.Str.Parse.{digits_value-take-le}
use Rattle.std.proofs.lemmas.Int.Digits.{digits_value_more}
use Rattle.std.proofs.lemmas.Bool.Decides.{nat_tests}
use native.Mathlib.Nat.{pow-suc, pow-le-pow_right}
use Rattle.std.specs.Str.{bytes_eq}
use Rattle.numa_script.specs.Numbers.{numeral_of, number_of, IsNumber, IsNumeral, in_64_bits}
use Rattle.numa_script.specs.Numbers.{digit_of}

not_fitting : (n m : ℕ) → in_64_bits n ≡ None → n ≤ m → in_64_bits m ≡ None
unfolding in_64_bits
not_fitting n m h le = grind (arith, nat_tests)

none_at : (a b : Bool) → cond a None (cond b None None) ≡ (let none : Option ℕ = None in none)
none_at true b = refl
none_at false true = refl
none_at false false = refl

chosen_else : (b : Bool) (o : Option ℕ) (n : ℕ) → cond b None o ≡ Some n → (b ≡ false)
    × (o ≡ Some n)
chosen_else true o n h = cc
chosen_else false o n h = (refl, h)

chosen_then : (b : Bool) (o : Option ℕ) (n : ℕ) → cond b o None ≡ Some n → (b ≡ true) × (o ≡ Some n)
chosen_then true o n h = (refl, h)
chosen_then false o n h = cc

if_none : (b : Bool) (d : ℕ) → cond b (Some d) None ≡ None → b ≡ false
if_none true d h = cc
if_none false d h = refl

-- a byte that is no digit
pub no_digit : (radix most : ℕ) (ds : List ℕ) (i : ℕ) → i < length ds
    → is_digit (get_or ds i 0) radix ≡ false → numeral_of radix most ds ≡ None
unfolding numeral_of
no_digit radix most ds i lt h = rw (list_all_at (λ c. is_digit c radix) ds i 0 lt h) (none_at _ _)

none_in : (a b c : Bool) (o : Option ℕ) → o ≡ None → cond a None (cond b None (cond c o None))
    ≡ None
none_in true b c o h = refl
none_in false true c o h = refl
none_in false false true o h = h
none_in false false false o h = refl

none_then : (a : Bool) → cond a None None ≡ (let none : Option ℕ = None in none)
none_then true = refl
none_then false = refl

-- a front that doesn't fit
pub too_large : (radix most : ℕ) (ds : List ℕ) (i : ℕ) → i < length ds → 1 ≤ radix
    → in_64_bits (digits_value radix (take i ds) * radix + digit_value (get_or ds i 0)) ≡ None
    → numeral_of radix most ds ≡ None
unfolding numeral_of
too_large radix most ds i lt one h =
    none_in (length ds == 0) (nat_lt most (length ds)) (list_all (λ c. is_digit c radix) ds) _
    (not_fitting _ (digits_value radix ds) h
    (rw (← digits_value_more radix ds i lt) (digits_value-take-le radix ds (i + 1) one)))

pub no_digit_at : (radix most : ℕ) (ds : List ℕ) (i : ℕ) → i < length ds
    → digit_of radix (get_or ds i 0) ≡ None → numeral_of radix most ds ≡ None
unfolding digit_of
no_digit_at radix most ds i lt h = no_digit radix most ds i lt (if_none _ _ h)

pub digit_is : (radix c d : ℕ) → digit_of radix c ≡ Some d → (is_digit c radix ≡ true)
    × (d ≡ digit_value c)
unfolding digit_of
digit_is radix c d h = let a = chosen_then (is_digit c radix) (Some (digit_value c)) d h in
    (a.0, cc (a.1))

pub fitting_is : (n m : ℕ) → Some m ≡ in_64_bits n → (m ≡ n) × (n < 2 ^ 64)
unfolding in_64_bits
fitting_is n m h =
    let a = chosen_then (nat_lt n (2 ^ 64)) (Some n) m (sym h) in
    let few : n < 2 ^ 64 = grind (arith, nat_tests, a.0) in
    (cc (a.1), few)

-- one more digit
pub more_digits : (radix : ℕ) (ds : List ℕ) (i : ℕ) → i < length ds
    → list_all (λ c. is_digit c radix) (take i ds) ≡ true → is_digit (get_or ds i 0) radix ≡ true
    → list_all (λ c. is_digit c radix) (take (i + 1) ds) ≡ true
more_digits radix ds i lt h d = rw (list_all_more (λ c. is_digit c radix) ds i 0 lt, h, d) refl

-- all are digits, and the number fits
pub all_digits : (radix most : ℕ) (ds : List ℕ) → (length ds == 0) ≡ false → length ds ≤ most
    → list_all (λ c. is_digit c radix) ds ≡ true → digits_value radix ds < 2 ^ 64
    → numeral_of radix most ds ≡ Some (digits_value radix ds)
unfolding numeral_of in_64_bits
all_digits radix most ds some few digits fits = rw (some, digits) (grind (arith, nat_tests))

pub none_empty : (radix most : ℕ) (ds : List ℕ) → length ds ≡ 0 → numeral_of radix most ds ≡ None
unfolding numeral_of
none_empty radix most ds h = rw h refl

pub none_long : (radix most : ℕ) (ds : List ℕ) → most < length ds → numeral_of radix most ds ≡ None
unfolding numeral_of
none_long radix most ds h =
    let e : nat_lt most (length ds) ≡ true = grind (arith, nat_tests) in
    rw e (none_then (length ds == 0))

pub ruleset numeral_steps = (
  none_empty,
  none_long,
  no_digit,
  too_large,
  more_digits,
  all_digits,
  digits_value_more,
)

-- sixteen hexadecimal digits always fit
pub hexadecimal_fits : (i value digit : ℕ) → i < 16 → value < 16 ^ i → digit < 16
    → value * 16 + digit < 2 ^ 64
hexadecimal_fits i value digit lt small one =
    let few : i ≤ 15 = omega (arith, lt) in
    let most : 16 ^ i ≤ 16 ^ 15 = pow-le-pow_right (omega arith) few in
    let room : value < 16 ^ 15 = omega (arith, most, small) in
    omega (arith, room, one)

pub hexadecimal_more : (i value digit : ℕ) → value < 16 ^ i → digit < 16
    → value * 16 + digit < 16 ^ (i + 1)
hexadecimal_more i value digit small one =
    let after : i + 1 ≡ suc i = omega arith in
    let next : 16 ^ (i + 1) ≡ 16 ^ i * 16 = ap (λ k. 16 ^ k) after ∙ pow-suc 16 i in
    omega (arith, next, small, one)

-- nineteen decimal digits do, too
pub decimal_fits : (i value digit : ℕ) → i < 19 → value < 10 ^ i → digit < 10
    → value * 10 + digit < 2 ^ 64
decimal_fits i value digit lt small one =
    let few : i ≤ 18 = omega (arith, lt) in
    let most : 10 ^ i ≤ 10 ^ 18 = pow-le-pow_right (omega arith) few in
    let room : value < 10 ^ 18 = omega (arith, most, small) in
    omega (arith, room, one)

pub decimal_more : (i value digit : ℕ) → value < 10 ^ i → digit < 10
    → value * 10 + digit < 10 ^ (i + 1)
decimal_more i value digit small one =
    let after : i + 1 ≡ suc i = omega arith in
    let next : 10 ^ (i + 1) ≡ 10 ^ i * 10 = ap (λ k. 10 ^ k) after ∙ pow-suc 10 i in
    omega (arith, next, small, one)

-- the value of a digit
pub digit_below : (radix c d : ℕ) → digit_of radix c ≡ Some d → d < radix
digit_below radix c d h =
    let is = digit_is radix c d h in
    let below : digit_value c < radix = grind (arith, nat_tests, is.0) in
    omega (arith, is.1, below)

match_from : (o : Option ℕ) (P : Type 0) (Q : ℕ → Type 0) → (o ≡ None → P)
    → ((n : ℕ) → o ≡ Some n → Q n) → MatchOption o P Q
match_from None P Q none some = none refl
match_from (Some n) P Q none some = some n refl

-- what is read is a numeral, and below 2^64
numeral_found : (radix most : ℕ) (ds : List ℕ) (n : ℕ) → numeral_of radix most ds ≡ Some n
    → (n < 2 ^ 64) × IsNumeral radix most ds n
unfolding numeral_of in_64_bits
numeral_found radix most ds n h =
    let a = chosen_else (length ds == 0) _ n h in
    let b = chosen_else (nat_lt most (length ds)) _ n a.1 in
    let d = chosen_then (list_all (λ c. is_digit c radix) ds) _ n b.1 in
    let f = chosen_then (nat_lt (digits_value radix ds) (2 ^ 64)) (Some (digits_value radix ds)) n
    d.1 in
    let some : length ds ≢ 0 = grind (arith, nat_tests, a.0) in
    let few : length ds ≤ most = grind (arith, nat_tests, b.0) in
    let is : n ≡ digits_value radix ds = cc (f.1) in
    let fits : digits_value radix ds < 2 ^ 64 = grind (arith, nat_tests, f.0) in
    (omega (arith, is, fits), (omega (arith, some), few, d.0, is))

-- what is a numeral, and below 2^64, is read
numeral_again : (radix most : ℕ) (ds : List ℕ) (n : ℕ) → n < 2 ^ 64 → IsNumeral radix most ds n
    → numeral_of radix most ds ≡ Some n
numeral_again radix most ds n fits (some, few, digits, is) =
    let e : (length ds == 0) ≡ false = grind (arith, nat_tests) in
    all_digits radix most ds e few digits (omega arith) ∙ ap (λ k. Some k) (sym is)

-- a text that begins with 0x
hex_front : (word : List ℕ) → bytes_eq (take 2 word) (codes "0x") ≡ true → word ≡ codes "0x"
    ++ drop 2 word
hex_front [] h = cc
hex_front (a ∷ []) h = grind (arith, nat_tests, h)
hex_front (a ∷ b ∷ rest) h =
    let x : a ≡ 48 = grind (arith, nat_tests, h) in
    let y : b ≡ 120 = grind (arith, nat_tests, h) in
    rw (x, y) refl

no_decimal : (digits : List ℕ) (n : ℕ) → IsNumeral 10 20 (codes "0x" ++ digits) n → ⊥
no_decimal digits n h = cc (h.2)

pub number_found : (word : List ℕ) (n : ℕ) → number_of word ≡ Some n → IsNumber word n
unfolding number_of
number_found word n h =
    elim (bytes_eq (take 2 word) (codes "0x")) as (λ b. bytes_eq (take 2 word) (codes "0x") ≡ b
    → cond b (numeral_of 16 16 (drop 2 word)) (numeral_of 10 20 word) ≡ Some n
    → IsNumber word n) [
      | true ↦ λ t e. (let g = numeral_found 16 16 (drop 2 word) n e in
          (g.0, inl (drop 2 word, hex_front word t, g.1)))
      | false ↦ λ t e. (let g = numeral_found 10 20 word n e in (g.0, inr g.1))
    ] refl h

pub number_again : (word : List ℕ) (n : ℕ) → IsNumber word n → number_of word ≡ Some n
unfolding number_of
number_again word n (fits, inl (digits, spelled, is)) =
    rw spelled (numeral_again 16 16 digits n fits is)
number_again word n (fits, inr is) =
    elim (bytes_eq (take 2 word) (codes "0x")) as (λ b. bytes_eq (take 2 word) (codes "0x") ≡ b
    → cond b (numeral_of 16 16 (drop 2 word)) (numeral_of 10 20 word) ≡ Some n) [
      | true ↦
          λ t.
          absurd (no_decimal (drop 2 word) n (let P : List ℕ → Type 0 = λ w. IsNumeral 10 20 w n in
          subst P (hex_front word t) is))
      | false ↦ λ t. numeral_again 10 20 word n fits is
    ] refl

-- the words of the grammar are read, and no other
pub number_grammar : (word : List ℕ) → MatchOption (number_of word) ((n : ℕ) → IsNumber word n → ⊥)
    (λ n. IsNumber word n)
number_grammar word =
    match_from (number_of word) ((n : ℕ) → IsNumber word n → ⊥) (λ n. IsNumber word n)
    (λ none n h. let e : number_of word ≡ Some n = number_again word n h in cc)
    (number_found word)

pub number_hex : (word digits : List ℕ) → bytes_eq (take 2 word) (codes "0x") ≡ true
    → digits ≡ drop 2 word → number_of word ≡ numeral_of 16 16 digits
unfolding number_of
number_hex word digits h e = rw (h, e) refl

pub number_decimal : (word : List ℕ) → bytes_eq (take 2 word) (codes "0x") ≡ false
    → number_of word ≡ numeral_of 10 20 word
unfolding number_of
number_decimal word h = rw h refl

-- a list of one
pub alone : (xs : List ℕ) → 1 ≤ length xs → length xs < 2 → xs ≡ get_or xs 0 0 ∷ []
alone [] some few = absurd (omega arith)
alone (x ∷ []) some few = refl
alone (x ∷ y ∷ ys) some few = absurd (omega arith)

one_of : (b : Bool) (n : ℕ) → (b ≡ true → nat_lt n (2 ^ 64) ≡ true)
    → cond (b && true) (cond (nat_lt n (2 ^ 64)) (Some n) None) None ≡ cond b (Some n) None
one_of true n fits = rw (fits refl) refl
one_of false n fits = refl

-- a number of one digit
one_numeral : (b : ℕ) → numeral_of 10 20 (b ∷ []) ≡ digit_of 10 b
unfolding numeral_of in_64_bits digit_of
one_numeral b =
    let plain : digits_value 10 (b ∷ []) ≡ digit_value b = omega arith in
    ap (λ v. cond (is_digit b 10 && true) (cond (nat_lt v (2 ^ 64)) (Some v) None) None) plain
    ∙ one_of (is_digit b 10) (digit_value b) (λ h. grind (arith, nat_tests, h))

and_false : (b : Bool) → (b && false) ≡ false
and_false true = refl
and_false false = refl

pub one_digit_is : (b : ℕ) → number_of (b ∷ []) ≡ digit_of 10 b
one_digit_is b = number_decimal (b ∷ []) (and_false (b == 48)) ∙ one_numeral b

pub ruleset number_steps = (number_grammar, number_hex, number_decimal)
