use Rattle.std.proofs.Common.{length}
use Rattle.numa_host_pages.specs.declared.member.Member.{Member}
use Rattle.numa_host_pages.proofs.order.+add_group.Given as goal

abbrev pub decreases-add_group : goal.decreases-add_group
decreases-add_group l = length {A = Member} l.members.now
