use Rattle.numa_host_pages.proofs.Alone.{free-alone, free-room}
use Rattle.numa_host_pages.proofs.laws.free_groups.Goals as goal

pub returns-clause-alone : goal.returns-clause-alone
returns-clause-alone c = free-alone

pub returns-clause-free : goal.returns-clause-free
returns-clause-free c = free-room
