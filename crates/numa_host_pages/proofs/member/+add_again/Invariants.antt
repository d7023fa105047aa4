use Rattle.std.proofs.Common.{length}
use Rattle.numa_host_pages.specs.declared.member.Member.{Member}
use Rattle.numa_host_pages.proofs.member.+add_again.Given as goal

abbrev pub decreases-add_again : goal.decreases-add_again
decreases-add_again l = length {A = Member} l.members.now
