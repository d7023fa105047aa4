use Rattle.std.proofs.Common.{length}
use Rattle.numa_host_pages.specs.declared.member.Member.{Member}
use Rattle.numa_host_pages.proofs.following.+follow_group.Given as goal

abbrev pub decreases-follow_group : goal.decreases-follow_group
decreases-follow_group l = length {A = Member} l.members.now
