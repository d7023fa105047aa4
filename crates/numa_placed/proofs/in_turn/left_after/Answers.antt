use Rattle.std.proofs.Common.{◌∙◌, length-set}
use Rattle.numa_placed.proofs.in_turn.left_after.Goals as goal

pub loop-node-preserved : goal.loop-node-preserved
loop-node-preserved c = length-set _ _ _ ∙ c.loop-node.invariant
