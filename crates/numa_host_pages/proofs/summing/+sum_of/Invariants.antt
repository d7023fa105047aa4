use Rattle.std.proofs.Common.{length}
use Rattle.numa_host_pages.specs.declared.member.Member.{Member}
use Rattle.numa_host_pages.proofs.summing.+sum_of.Given as goal

abbrev pub decreases-sum_of : goal.decreases-sum_of
decreases-sum_of l = length {A = Member} l.members.now
