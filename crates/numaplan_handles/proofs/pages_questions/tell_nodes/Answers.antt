use Rattle.std.proofs.Common.{arith, refl}
use Rattle.numaplan_handles.proofs.pages_questions.tell_nodes.Goals as goal

pub returns : goal.returns
returns c = (
  refl,
  omega (arith, c.if-nodes-count.false),
  λ k small. c.write_each.ensures.nodes k
      (omega (arith, c.if-nodes-count.false, c.write_each.ensures.long, small)),
)
