use Rattle.std.proofs.Common.{length}
use Rattle.numa_host_pages.specs.declared.member.Member.{Member}
use Rattle.numa_host_pages.proofs.member.+still_all.Given as goal

abbrev pub decreases-still_all : goal.decreases-still_all
decreases-still_all l = length {A = Member} l.members.now
