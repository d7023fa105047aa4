use Rattle.std.proofs.Common.{◌≡◌, ◌<◌, ◌+◌, ◌*◌, ℕ, List, Some, true, length, take, get_or, sym}
use Rattle.std.proofs.Common.{◌∙◌, ap, arith, inl, inr}
use Rattle.std.proofs.lemmas.List.{take_all}
use Rattle.std.specs.Char.{is_digit, digit_value}
use Rattle.std.specs.List.{list_all}
use Rattle.std.specs.Str.Parse.{digits_value}
use Rattle.std.proofs.lemmas.Bool.{eqb-false}
use Rattle.std.proofs.lemmas.Int.Digits.{digits_value_more}
use Rattle.numa_mask.proofs.Reading.{none_empty, none_long, no_digit, digit-none, digit-some}
use Rattle.numa_mask.proofs.Reading.{digit-below, more_digits, all_digits, digits_fit, digits_small}
use Rattle.numa_mask.proofs.list.numeral.Goals as goal

pub returns-then-is_empty : goal.returns-then-is_empty
returns-then-is_empty c =
    elim c.then-is_empty.either [
      | inl e ↦ sym (none_empty c.args.digits.now (sym c.is_empty.ensures ∙ e))
      | inr h ↦ sym (none_long c.args.digits.now h.1)
    ]

pub overflow_mul-value : goal.overflow_mul-value
overflow_mul-value c =
    omega (
      arith,
      digits_small c.loop-byte.value c.loop-byte.byte-index c.loop-byte.invariant.fits
          (omega arith),
    )

pub returns-in_err-value : goal.returns-in_err-value
returns-in_err-value c = c.from_residual.ensures
    ∙ sym (no_digit c.args.digits.now c.loop-byte.byte-index c.loop-byte-test.true
    (digit-none (get_or c.args.digits.now c.loop-byte.byte-index 0) (sym c.in_err-value.ensures)))

pub overflow_add-value : goal.overflow_add-value
overflow_add-value c =
    omega (
      arith,
      digits_small c.loop-byte.value c.loop-byte.byte-index c.loop-byte.invariant.fits
          (omega arith),
      digit-below (get_or c.args.digits.now c.loop-byte.byte-index 0)
          c.in_ok-value.field-0 (sym c.in_ok-value.ensures),
    )

pub loop-byte-preserved : goal.loop-byte-preserved
loop-byte-preserved c =
    let i : ℕ = c.loop-byte.byte-index in
    let ds : List ℕ = c.args.digits.now in
    let lt : i < length ds = c.loop-byte-test.true in
    let d : (is_digit (get_or ds i 0) 10 ≡ true)
    × (c.in_ok-value.field-0 ≡ digit_value (get_or ds i 0)) =
    digit-some (get_or ds i 0) c.in_ok-value.field-0 (sym c.in_ok-value.ensures) in
    record {
      digits = more_digits ds i lt c.loop-byte.invariant.digits d.0;
      value = ap (λ v. v * 10 + c.in_ok-value.field-0) c.loop-byte.invariant.value
          ∙ ap (λ x. digits_value 10 (take i ds) * 10 + x) d.1 ∙ sym (digits_value_more 10 ds i lt);
      fits = digits_fit c.loop-byte.value c.in_ok-value.field-0 i c.loop-byte.invariant.fits
          (omega arith)
          (digit-below (get_or ds i 0) c.in_ok-value.field-0 (sym c.in_ok-value.ensures));
    }

pub returns : goal.returns
returns c =
    let ds : List ℕ = c.args.digits.now in
    let i : ℕ = c.loop-byte.byte-index in
    let all : take i ds ≡ ds = take_all i ds (omega arith) in
    let some : length ds ≡ 0 → ⊥ = eqb-false (length ds) 0 (sym c.if-is_empty.ensures) in
    ap Some (c.loop-byte.invariant.value ∙ ap (digits_value 10) all)
    ∙ sym
    (all_digits ds (omega (arith, some)) c.if-digits-gt4.false
    (sym (ap (list_all (λ x. is_digit x 10)) all) ∙ c.loop-byte.invariant.digits))
