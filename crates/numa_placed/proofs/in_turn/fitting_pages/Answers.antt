use Rattle.std.proofs.Common.{◌∙◌, length-set}
use Rattle.numa_placed.proofs.in_turn.fitting_pages.Goals as goal

pub loop-passed-preserved : goal.loop-passed-preserved
loop-passed-preserved c = length-set _ _ _ ∙ c.loop-passed.invariant
