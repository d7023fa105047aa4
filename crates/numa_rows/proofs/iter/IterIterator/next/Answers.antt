-- The rows that are left are those of the part in hand and of the chunks but for what is gone.
use Rattle.std.proofs.Common.{◌≡◌, false, true, ◌++◌, ◌+◌, ◌-◌, drop, length, sym, ap, ◌∙◌, arith}
use Rattle.std.proofs.Common.{length-append, refl}
use Rattle.std.proofs.lemmas.Bool.{eqb-true, eq-eqb, false≢true}
use Rattle.std.proofs.lemmas.List.{length-drop}
use Rattle.numa_rows.specs.Parts.{flat}
use Rattle.numa_rows.proofs.InParts.{none-left}
use Rattle.numa_rows.proofs.Standing.{read-on, passed-on}
use Rattle.numa_rows.proofs.iter.IterIterator.next.Goals as goal

pub loop-parts-preserved-then-self-size : goal.loop-parts-preserved-then-self-size
loop-parts-preserved-then-self-size g c =
    let chunks = c.loop-parts.self-inside.chunks.now in
    let gone = c.loop-parts.self-inside.gone in
    let part = c.part_at.result in
    let none : length c.loop-parts.self-inside.rows.now ≡ 0 =
    eqb-true (length c.loop-parts.self-inside.rows.now) 0
    (sym c.is_empty.ensures ∙ c.loop-parts-test.true) in
    read-on chunks c.in-Some.parts.1.now c.in-Some.parts.0.now c.loop-parts.self-inside.rows.now
    part.rows _ c.rows_from-self-inside.result.now part.start gone _ c.in-Some.ensures.cases.0
    c.part_at.ensures.part c.part_at.ensures.has.from c.part_at.ensures.has.to none
    c.rows_from-self-inside.ensures refl c.loop-parts.invariant

pub loop-parts-preserved : goal.loop-parts-preserved
loop-parts-preserved g c =
    passed-on c.loop-parts.self-inside.chunks.now c.in-Some.parts.1.now c.in-Some.parts.0.now
    c.loop-parts.self-inside.rows.now _ c.loop-parts.self-inside.gone _
    c.in-Some.ensures.cases.0 (omega (arith, c.len-size.ensures, c.if-self-size.false))
    c.loop-parts.invariant

pub loop-parts-smaller-then-self-size : goal.loop-parts-smaller-then-self-size
loop-parts-smaller-then-self-size g c =
    let part = c.part_at.result in
    let gone = c.loop-parts.self-inside.gone in
    let size : length c.rows_from-self-inside.result.now ≡ length part.rows - (gone - part.start) =
    ap length c.rows_from-self-inside.ensures ∙ length-drop (gone - part.start) part.rows in
    let whole : length (flat c.loop-parts.self-inside.chunks.now) ≡ length c.in-Some.parts.0.now
    + length (flat c.in-Some.parts.1.now) = ap (λ l. length (flat l)) c.in-Some.ensures.cases.0
    ∙ length-append c.in-Some.parts.0.now (flat c.in-Some.parts.1.now) in
    omega (
      arith,
      size,
      whole,
      c.len-size.ensures,
      c.if-self-size.true,
      c.part_at.ensures.has.from,
      c.part_at.ensures.has.to,
    )

pub loop-parts-smaller : goal.loop-parts-smaller
loop-parts-smaller g c =
    let whole : length (flat c.loop-parts.self-inside.chunks.now) ≡ length c.in-Some.parts.0.now
    + length (flat c.in-Some.parts.1.now) = ap (λ l. length (flat l)) c.in-Some.ensures.cases.0
    ∙ length-append c.in-Some.parts.0.now (flat c.in-Some.parts.1.now) in
    omega (
      arith,
      whole,
      ap length c.in-Some.ensures.cases.0,
      c.len-size.ensures,
      c.if-self-size.false,
    )

pub returns-in_default-clause-steps : goal.returns-in_default-clause-steps
returns-in_default-clause-steps g c =
    let empty : length c.loop-parts.self-inside.rows.now ≡ 0 =
    eqb-true (length c.loop-parts.self-inside.rows.now) 0
    (sym c.is_empty.ensures ∙ c.loop-parts-test.true) in
    let none = none-left c.loop-parts.self-inside.rows.now c.loop-parts.self-inside.chunks.now
    c.loop-parts.self-inside.gone empty c.in_default.ensures.cases in
    (sym c.self.view_is ∙ (sym c.loop-parts.invariant ∙ none), none)

pub returns-in_default-split_first-clause-steps : goal.returns-in_default-split_first-clause-steps
returns-in_default-split_first-clause-steps g c =
    let odd : false ≡ true = sym c.loop-parts-test.false
    ∙ (c.is_empty.ensures ∙ eq-eqb (length c.loop-parts.self-inside.rows.now) 0
    c.in_default-split_first.ensures.cases) in
    absurd (false≢true odd)

pub returns-clause-steps : goal.returns-clause-steps
returns-clause-steps g c =
    sym c.self.view_is
    ∙ (sym c.loop-parts.invariant
    ∙ ap
    (λ l. l ++ drop c.loop-parts.self-inside.gone (flat c.loop-parts.self-inside.chunks.now))
    c.in-Some-split_first.ensures.cases.0)

pub loop-parts-init : goal.loop-parts-init
loop-parts-init g c = refl

pub part_at-requires : goal.part_at-requires
part_at-requires g c = omega (arith, c.len-size.ensures, c.if-self-size.true)

pub rows_from-self-inside-requires : goal.rows_from-self-inside-requires
rows_from-self-inside-requires g c = c.part_at.ensures.has

pub overflow_sub-self : goal.overflow_sub-self
overflow_sub-self g c = omega (arith, c.len-size.ensures, c.if-self-size.false)

pub returns-in_default-clause-goes : goal.returns-in_default-clause-goes
returns-in_default-clause-goes g c =
    record { on = λ finite. tt; keeps = tt; rests = λ finite. finite }

pub returns-in_default-split_first-clause-goes : goal.returns-in_default-split_first-clause-goes
returns-in_default-split_first-clause-goes g c =
    record { on = λ finite. tt; keeps = tt; rests = λ finite. finite }
