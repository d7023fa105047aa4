-- The row at the loop's place is the first that starts behind the page.
use Rattle.std.proofs.Common.{◌+◌, ◌-◌, ◌<◌, ◌≤◌, get_or, subst, arith}
use Rattle.numa_ranges.specs.declared.row.Row.{Row}
use Rattle.numa_ranges.proofs.even.starts_beside.Goals as goal

pub loop-place-init : goal.loop-place-init
loop-place-init c = record {
  part = c.no_part-part.ensures;
  before = λ d low. absurd (omega (arith, low));
}

pub loop-place-preserved : goal.loop-place-preserved
loop-place-preserved c = record {
  part = c.part_with-part.ensures.part;
  before = λ d low.
      subst (λ n. (get_or c.args.rows.now n d).first ≤ c.args.page) {x = c.loop-place.place}
      {y = c.loop-place.place + 1 - 1} (omega arith)
      (subst (λ (r : Row). r.first ≤ c.args.page) (c.row_in-row.ensures d) c.if-page-row.false);
}

pub part_with-part-requires-clause-part : goal.part_with-part-requires-clause-part
part_with-part-requires-clause-part c = c.loop-place.invariant.part

pub row_in-row-requires-clause-part : goal.row_in-row-requires-clause-part
row_in-row-requires-clause-part c = c.part_with-part.ensures.part

pub row_in-row-requires-clause-has : goal.row_in-row-requires-clause-has
row_in-row-requires-clause-has c = c.part_with-part.ensures.has

pub returns-then-page-row-clause-before : goal.returns-then-page-row-clause-before
returns-then-page-row-clause-before c d =
    c.loop-place.invariant.before d (omega (arith, c.if-place-start.false, c.loop-place.auto.place))

pub returns-then-page-row-clause-behind : goal.returns-then-page-row-clause-behind
returns-then-page-row-clause-behind c d = subst (λ (r : Row). c.args.page < r.first)
    (c.row_in-row.ensures d) c.if-page-row.true

pub returns-then-place-start-clause-some : goal.returns-then-place-start-clause-some
returns-then-place-start-clause-some c = tt

pub returns-then-place-start-clause-within : goal.returns-then-place-start-clause-within
returns-then-place-start-clause-within c = tt

pub returns-then-place-start-clause-before : goal.returns-then-place-start-clause-before
returns-then-place-start-clause-before c = tt

pub returns-then-place-start-clause-behind : goal.returns-then-place-start-clause-behind
returns-then-place-start-clause-behind c = tt

pub returns-clause-some : goal.returns-clause-some
returns-clause-some c = tt

pub returns-clause-within : goal.returns-clause-within
returns-clause-within c = tt

pub returns-clause-before : goal.returns-clause-before
returns-clause-before c = tt

pub returns-clause-behind : goal.returns-clause-behind
returns-clause-behind c = tt

pub returns-in_err-even_rank-clause-some : goal.returns-in_err-even_rank-clause-some
returns-in_err-even_rank-clause-some c = rw c.from_residual.ensures tt

pub returns-in_err-even_rank-clause-within : goal.returns-in_err-even_rank-clause-within
returns-in_err-even_rank-clause-within c = rw c.from_residual.ensures tt

pub returns-in_err-even_rank-clause-before : goal.returns-in_err-even_rank-clause-before
returns-in_err-even_rank-clause-before c = rw c.from_residual.ensures tt

pub returns-in_err-even_rank-clause-behind : goal.returns-in_err-even_rank-clause-behind
returns-in_err-even_rank-clause-behind c = rw c.from_residual.ensures tt
