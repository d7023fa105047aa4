use Rattle.numa_pool.proofs.Whole.{ends_once}
use Rattle.numa_pool.proofs.laws.the_end_tells_frames_apart.Goals as goal

pub returns : goal.returns
returns c = ends_once
