use Rattle.std.proofs.Common.{sym, ◌∙◌}
use Rattle.numa_machine.proofs.Sizes.{part-end, part-top, turn-part}
use Rattle.numa_machine.proofs.page_size.parts_left.Goals as goal

pub returns-then-is_part-clause-same : goal.returns-then-is_part-clause-same
returns-then-is_part-clause-same c q within =
    let part = sym c.is_part.ensures ∙ c.if-is_part.true in
    turn-part c.args.index q (part-end c.args.index part) (part-top c.args.index part) within
