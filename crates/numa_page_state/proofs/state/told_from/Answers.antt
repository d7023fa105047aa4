use Rattle.std.proofs.Common.{arith}
use Rattle.numa_page_state.proofs.Singles.{told-other}
use Rattle.numa_page_state.proofs.state.told_from.Goals as goal

pub returns : goal.returns
returns c = told-other c.args.node c.args.from c.if-from-node.false (omega arith)
