use Rattle.std.proofs.Common.{refl}
use Rattle.numa_mask.specs.Words.{number_of}
use Rattle.numa_mask.proofs.mask.NodeMask.empty.Goals as goal

pub returns : goal.returns
unfolding number_of
returns c = refl
