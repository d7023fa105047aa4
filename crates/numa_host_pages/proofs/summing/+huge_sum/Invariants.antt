use Rattle.std.proofs.Common.{length}
use Rattle.numa_host_pages.specs.declared.member.Member.{Member}
use Rattle.numa_host_pages.proofs.summing.+huge_sum.Given as goal

abbrev pub decreases-huge_sum : goal.decreases-huge_sum
decreases-huge_sum l = length {A = Member} l.members.now
