use Rattle.std.proofs.Common.{◌+◌, ◌-◌, arith}
use Rattle.numa_ranges.specs.Runs.{page_at}
use Rattle.numa_placed.proofs.Walking.{judged-within}
use Rattle.numa_placed.proofs.areas.judged_pages.Goals as goal

pub overflow_sub-result : goal.overflow_sub-result
overflow_sub-result c =
    let within = judged-within (page_at c.args.space.now.ranges) c.args.first c.args.first
    (c.args.first + c.args.pages - c.args.first) (omega arith) in
    omega (arith, within.0, c.judged_end.ensures)

pub returns-in-Linux-clause-at_most : goal.returns-in-Linux-clause-at_most
returns-in-Linux-clause-at_most c =
    let within = judged-within (page_at c.args.space.now.ranges) c.args.first c.args.first
    (c.args.first + c.args.pages - c.args.first) (omega arith) in
    omega (arith, within.1, c.judged_end.ensures)
