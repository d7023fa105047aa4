use Rattle.numa_host.proofs.AcceptedLists.{commands-accepted}
use Rattle.numa_host.proofs.laws.process_lists.Goals as goal

pub returns : goal.returns
returns c = λ machine bounds history process some small below accepted. commands-accepted machine
    bounds some small below history process accepted
