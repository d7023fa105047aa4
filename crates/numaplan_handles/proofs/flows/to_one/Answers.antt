use Rattle.std.proofs.Common.{arith}
use Rattle.numaplan_handles.proofs.Flowing.{one-went}
use Rattle.numaplan_handles.proofs.flows.to_one.Goals as goal

pub returns : goal.returns
returns c = λ k small. one-went c.args.pages c.args.to k (omega arith) small
