use Rattle.std.proofs.Common.{length}
use Rattle.numa_host_pages.specs.declared.member.Member.{Member}
use Rattle.numa_host_pages.proofs.member.+take_along.Given as goal

abbrev pub decreases-take_along : goal.decreases-take_along
decreases-take_along l = length {A = Member} l.members.now
