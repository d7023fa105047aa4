use Rattle.std.proofs.Common.{arith}
use Rattle.numa_placed.proofs.Spanned.{one-set}
use Rattle.numa_placed.proofs.fitting.all_on.Goals as goal

pub returns : goal.returns
returns c other small = one-set c.args.node c.args.pages other (omega arith) small
