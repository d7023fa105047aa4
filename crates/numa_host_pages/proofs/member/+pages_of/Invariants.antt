use Rattle.std.proofs.Common.{length}
use Rattle.numa_host_pages.specs.declared.member.Member.{Member}
use Rattle.numa_host_pages.proofs.member.+pages_of.Given as goal

abbrev pub decreases-pages_of : goal.decreases-pages_of
decreases-pages_of l = length {A = Member} l.members.now
