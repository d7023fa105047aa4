use Rattle.numa_host_pages.proofs.Small.{lie-apart, stay-none, sum-small}
use Rattle.numa_host_pages.proofs.laws.small_hosts.Goals as goal

pub returns-clause-stay : goal.returns-clause-stay
returns-clause-stay c = stay-none

pub returns-clause-apart : goal.returns-clause-apart
returns-clause-apart c = lie-apart

pub returns-clause-last : goal.returns-clause-last
returns-clause-last c = sum-small
