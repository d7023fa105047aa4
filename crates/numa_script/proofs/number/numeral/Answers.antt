use Rattle.std.proofs.Common.{◌≡◌, ◌<◌, ◌≤◌, ◌^◌, ◌==◌, ℕ, List, Some, false, true, length, take}
use Rattle.std.proofs.Common.{get_or, sym, ◌∙◌, ap, arith}
use Rattle.std.proofs.lemmas.Bool.Decides.{nat_tests}
use Rattle.std.proofs.lemmas.List.{take_all}
use Rattle.std.specs.Char.{is_digit}
use Rattle.std.specs.List.{list_all}
use Rattle.std.specs.Str.Parse.{digits_value}
use Rattle.std.proofs.lemmas.Int.Digits.{digits_value_more}
use Rattle.numa_script.proofs.Numerals.{no_digit_at, too_large, more_digits, all_digits, digit_is}
use Rattle.numa_script.proofs.Numerals.{fitting_is}
use Rattle.numa_script.proofs.number.numeral.Goals as goal

pub returns-in_err-digit : goal.returns-in_err-digit
returns-in_err-digit c =
    c.from_residual.ensures ∙ sym
    (no_digit_at c.args.radix c.args.most c.args.digits.now c.loop-byte.byte-index
    c.loop-byte-test.true (sym c.in_err-digit.ensures))

pub returns-in_err-value : goal.returns-in_err-value
returns-in_err-value c =
    let d = digit_is c.args.radix (get_or c.args.digits.now c.loop-byte.byte-index 0)
    c.in_ok-digit.digit (sym c.in_ok-digit.ensures) in
    c.from_residual-in_err-value.ensures ∙ sym
    (too_large c.args.radix c.args.most c.args.digits.now c.loop-byte.byte-index
    c.loop-byte-test.true (omega arith)
    (rw (← c.loop-byte.invariant.value, ← d.1) (sym c.in_err-value.ensures)))

pub loop-byte-preserved : goal.loop-byte-preserved
loop-byte-preserved c =
    let i : ℕ = c.loop-byte.byte-index in
    let ds : List ℕ = c.args.digits.now in
    let lt : i < length ds = c.loop-byte-test.true in
    let d = digit_is c.args.radix (get_or ds i 0) c.in_ok-digit.digit (sym c.in_ok-digit.ensures) in
    record {
      digits = more_digits c.args.radix ds i lt c.loop-byte.invariant.digits d.0;
      value = (fitting_is _ _ c.in_ok-value.ensures).0 ∙ rw (c.loop-byte.invariant.value, d.1)
          (sym (digits_value_more c.args.radix ds i lt));
      fits = rw (fitting_is _ _ c.in_ok-value.ensures).0 (fitting_is _ _ c.in_ok-value.ensures).1;
    }

pub returns : goal.returns
returns c =
    let ds : List ℕ = c.args.digits.now in
    let i : ℕ = c.loop-byte.byte-index in
    let all : take i ds ≡ ds = take_all i ds (omega arith) in
    let some : (length ds == 0) ≡ false = grind (arith, nat_tests) in
    let few : length ds ≤ c.args.most = omega arith in
    let is : c.loop-byte.value ≡ digits_value c.args.radix ds = c.loop-byte.invariant.value
    ∙ ap (digits_value c.args.radix) all in
    let fits : digits_value c.args.radix ds < 2 ^ 64 = omega (arith, is) in
    let digits : list_all (λ x. is_digit x c.args.radix) ds ≡ true =
    rw all at c.loop-byte.invariant.digits in
    ap (λ k. Some k) is ∙ sym (all_digits c.args.radix c.args.most ds some few digits fits)
