use Rattle.numa_refinement.proofs.Playing.{plays}
use Rattle.numa_refinement.proofs.walks.interleavings_are_executions.Goals as goal

pub returns : goal.returns
returns c s first done few some_worker h = let all = plays s few some_worker first done h in
    (all.legal, all.granted, all.tied, all.met)
