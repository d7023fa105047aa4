use Rattle.std.proofs.Common.{length}
use Rattle.numa_host_pages.specs.declared.member.Member.{Member}
use Rattle.numa_host_pages.proofs.following.+follow_sharers.Given as goal

abbrev pub decreases-follow_sharers : goal.decreases-follow_sharers
decreases-follow_sharers l = length {A = Member} l.members.now
