use Rattle.std.proofs.Common.{arith}
use Rattle.numa_page_state.proofs.between.has_none.Goals as goal

pub returns : goal.returns
returns c so = omega (arith, c.counts-counts.ensures c.args.node (omega arith))
