use Rattle.std.proofs.Common.{◌∙◌, arith}
use Rattle.std.proofs.lemmas.Result.{err_from_is_err_and}
use Rattle.numa_reports.specs.declared.fault.ReportError.TheVariants.{Refused}
use Rattle.numa_reports.proofs.Refusing.{left-all, left-end, left-next, range-fails}
use Rattle.numa_reports.proofs.sheet.cells.first_cells.Goals as goal

pub loop-range-init : goal.loop-range-init
loop-range-init c = left-all c.into_iter-range-iterator.result c.args.asked.space.now.ranges
    (c.into_iter-range-iterator.ensures.into_iter_gives ∙ c.range_iter-range-items.ensures.runs)
    c.range_iter-range-items.ensures.rising

pub loop-range-preserved : goal.loop-range-preserved
loop-range-preserved c = left-next c.loop-range.range-iterator c.args.asked.space.now.ranges
    c.next.new.self c.in-Some.range c.loop-range.invariant c.in-Some.ensures.steps

pub put_cells-requires : goal.put_cells-requires
put_cells-requires c =
    omega (
      arith,
      left-end c.loop-range.range-iterator c.args.asked.space.now.ranges c.next.new.self
          c.in-Some.range c.loop-range.invariant c.in-Some.ensures.steps,
    )

pub returns-in_err-put_cells : goal.returns-in_err-put_cells
returns-in_err-put_cells c = record {
  err = λ history stands planned.
      let exit = err_from_is_err_and c.from_residual.result c.from_residual.ensures.1 in
      rw (exit.1, exit.2)
      (range-fails c.args.asked.space.now c.args.asked.plan.now history c.loop-range.range-iterator
      c.next.new.self c.in-Some.range c.args.asked.touch.cpu (Refused c.in_err-put_cells.field-0.0)
      stands planned c.loop-range.invariant c.in-Some.ensures.steps c.in_err-put_cells.ensures);
}

pub returns-in_err-take : goal.returns-in_err-take
returns-in_err-take c = record {
  err = λ history stands planned.
      let exit = err_from_is_err_and c.from_residual-in_err-take.result
      c.from_residual-in_err-take.ensures.1 in
      rw (exit.1, exit.2) tt;
}
