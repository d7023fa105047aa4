use Rattle.std.proofs.Common.{sym, ◌∙◌}
use Rattle.numa_placed.proofs.Filtered.{mapped-below}
use Rattle.numa_placed.proofs.judge.is_mapped.Goals as goal

pub returns-clause-below : goal.returns-clause-below
returns-clause-below c mapped =
    mapped-below c.args.space.now.ranges c.args.page c.range_iter.ensures.rising
    (sym c.has_list.ensures ∙ mapped)
