use Rattle.numa_host_pages.proofs.Places.{each-length}
use Rattle.numa_host_pages.proofs.laws.same_processes.Goals as goal

pub returns : goal.returns
returns c = each-length
