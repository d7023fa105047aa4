use Rattle.std.proofs.Common.{◌≡◌, ◌<◌, ◌≤◌, ◌^◌, ◌==◌, ℕ, List, Some, false, true, length, take}
use Rattle.std.proofs.Common.{get_or, sym, ◌∙◌, ap, arith}
use Rattle.std.proofs.lemmas.Bool.Decides.{nat_tests}
use Rattle.std.proofs.lemmas.List.{take_all}
use Rattle.std.specs.Char.{is_digit}
use Rattle.std.specs.List.{list_all}
use Rattle.std.specs.Str.Parse.{digits_value}
use Rattle.std.proofs.lemmas.Int.Digits.{digits_value_more}
use Rattle.numa_script.proofs.Numerals.{no_digit_at, more_digits, all_digits, digit_is, digit_below}
use Rattle.numa_script.proofs.Numerals.{decimal_fits, decimal_more}
use Rattle.numa_script.proofs.number.short_decimal.Goals as goal

pub returns-in_err-digit : goal.returns-in_err-digit
returns-in_err-digit c =
    c.from_residual.ensures ∙ sym
    (no_digit_at 10 20 c.args.digits.now c.loop-byte.byte-index c.loop-byte-test.true
    (sym c.in_err-digit.ensures))

pub overflow_mul-value : goal.overflow_mul-value
overflow_mul-value c =
    omega (
      arith,
      decimal_fits c.loop-byte.byte-index c.loop-byte.value 0 (omega arith)
          c.loop-byte.invariant.small (omega arith),
    )

pub overflow_add-value : goal.overflow_add-value
overflow_add-value c =
    let below : c.in_ok-digit.digit < 10 =
    digit_below 10 (get_or c.args.digits.now c.loop-byte.byte-index 0) c.in_ok-digit.digit
    (sym c.in_ok-digit.ensures) in
    let one : c.from.result < 10 = omega (arith, c.from.ensures, below) in
    omega (
      arith,
      decimal_fits c.loop-byte.byte-index c.loop-byte.value c.from.result
          (omega arith) c.loop-byte.invariant.small one,
    )

pub loop-byte-preserved : goal.loop-byte-preserved
loop-byte-preserved c =
    let i : ℕ = c.loop-byte.byte-index in
    let ds : List ℕ = c.args.digits.now in
    let lt : i < length ds = c.loop-byte-test.true in
    let d = digit_is 10 (get_or ds i 0) c.in_ok-digit.digit (sym c.in_ok-digit.ensures) in
    let below : c.in_ok-digit.digit < 10 = digit_below 10 (get_or ds i 0) c.in_ok-digit.digit
    (sym c.in_ok-digit.ensures) in
    let one : c.from.result < 10 = omega (arith, c.from.ensures, below) in
    record {
      digits = more_digits 10 ds i lt c.loop-byte.invariant.digits d.0;
      value = rw (c.from.ensures, c.loop-byte.invariant.value, d.1)
          (sym (digits_value_more 10 ds i lt));
      small = decimal_more i c.loop-byte.value c.from.result c.loop-byte.invariant.small one;
    }

pub returns : goal.returns
returns c =
    let ds : List ℕ = c.args.digits.now in
    let i : ℕ = c.loop-byte.byte-index in
    let all : take i ds ≡ ds = take_all i ds (omega arith) in
    let some : (length ds == 0) ≡ false = grind (arith, nat_tests) in
    let few : length ds ≤ 20 = omega arith in
    let is : c.loop-byte.value ≡ digits_value 10 ds = c.loop-byte.invariant.value
    ∙ ap (digits_value 10) all in
    let fits : digits_value 10 ds < 2 ^ 64 = omega (arith, is, c.loop-byte.auto.value-fits) in
    let digits : list_all (λ x. is_digit x 10) ds ≡ true = rw all at c.loop-byte.invariant.digits in
    ap (λ k. Some k) is ∙ sym (all_digits 10 20 ds some few digits fits)
