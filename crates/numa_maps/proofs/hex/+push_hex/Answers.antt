use Rattle.std.proofs.Common.{◌+◌, ◌/◌, ◌%◌, ◌≤◌, [], ◌∷◌, ◌++◌, length, false, arith, ap, sym, ◌∙◌}
use Rattle.std.proofs.Common.{append_assoc, length-append}
use Rattle.std.specs.Fmt.{digit_glyph}
use Rattle.numa_maps.specs.Listing.{hex_text}
use Rattle.numa_maps.proofs.Hexes.{text-one, text-step}
use Rattle.numa_maps.proofs.hex.+push_hex.Goals as goal

pub push_digit-requires : goal.push_digit-requires
push_digit-requires t c = record {
  digit = omega arith;
  room =
      omega (
        arith,
        c.requires,
        ap length (text-one c.args.least c.args.number c.if-number-lt16.true c.if-least-le1.true),
      );
}

pub returns-then-least-le1 : goal.returns-then-least-le1
returns-then-least-le1 t c = c.push_digit.ensures ∙ ap (λ x. c.args.text.now.bytes ++ x)
    (sym (text-one c.args.least c.args.number c.if-number-lt16.true c.if-least-le1.true))

pub push_hex-requires : goal.push_hex-requires
push_hex-requires t c =
    let e = text-step c.args.least c.args.number c.saturating_sub.result c.else-number-lt16.either
    c.saturating_sub.ensures (omega (arith, c.ranges.number.fits)) in
    let room : length c.args.text.now.bytes + length
    (hex_text c.saturating_sub.result (c.args.number / 16)) ≤ 8192 =
    omega (
      arith,
      c.requires,
      ap length e,
      length-append (hex_text c.saturating_sub.result (c.args.number / 16))
          (digit_glyph false (c.args.number % 16) ∷ []),
    ) in
    (omega (arith, c.decreases, c.else-number-lt16.either, c.saturating_sub.ensures), room)

pub push_digit-requires-2 : goal.push_digit-requires-2
push_digit-requires-2 t c =
    let e = text-step c.args.least c.args.number c.saturating_sub.result c.else-number-lt16.either
    c.saturating_sub.ensures (omega (arith, c.ranges.number.fits)) in
    record {
      digit = omega arith;
      room =
          omega (
            arith,
            c.requires,
            ap length e,
            length-append (hex_text c.saturating_sub.result (c.args.number / 16))
                (digit_glyph false (c.args.number % 16) ∷ []),
            ap length c.push_hex.ensures,
            length-append c.args.text.now.bytes
                (hex_text c.saturating_sub.result (c.args.number / 16)),
          );
    }

pub returns : goal.returns
returns t c =
    c.push_digit-2.ensures ∙ ap (λ x. x ++ digit_glyph false (c.args.number % 16) ∷ [])
    c.push_hex.ensures
    ∙ append_assoc c.args.text.now.bytes (hex_text c.saturating_sub.result (c.args.number / 16))
    (digit_glyph false (c.args.number % 16) ∷ [])
    ∙ ap (λ x. c.args.text.now.bytes ++ x)
    (sym (text-step c.args.least c.args.number c.saturating_sub.result c.else-number-lt16.either
    c.saturating_sub.ensures (omega (arith, c.ranges.number.fits))))
