use Rattle.std.proofs.Common.{◌≡◌, ◌∙◌, ap, sym, refl}
use Rattle.std.specs.List.{list_any}
use Rattle.numa_machine.specs.Sizes.{is_part}
use Rattle.numa_subjects.proofs.sizes.has_huge.Goals as goal

pub loop-range-init : goal.loop-range-init
loop-range-init c = ap (list_any (λ range. is_part range.index))
    (c.into_iter-range-iterator.ensures.into_iter_gives ∙ c.range_iter-range-items.ensures.runs)

pub loop-range-preserved : goal.loop-range-preserved
loop-range-preserved c = rw (
  sym c.loop-range.invariant,
  c.in-Some.ensures.steps,
  sym c.is_part.ensures,
  c.if-is_part.false,
) refl

pub returns-then-is_part : goal.returns-then-is_part
returns-then-is_part c = rw (
  sym c.loop-range.invariant,
  c.in-Some.ensures.steps,
  sym c.is_part.ensures,
  c.if-is_part.true,
) refl

pub returns : goal.returns
returns c = rw (sym c.loop-range.invariant, c.in-None.ensures.steps.0) refl
