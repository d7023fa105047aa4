use Rattle.std.proofs.Common.{length}
use Rattle.numa_host_pages.specs.declared.member.Member.{Member}
use Rattle.numa_host_pages.proofs.member.+take_pages.Given as goal

abbrev pub decreases-take_pages : goal.decreases-take_pages
decreases-take_pages l = length {A = Member} l.members.now
