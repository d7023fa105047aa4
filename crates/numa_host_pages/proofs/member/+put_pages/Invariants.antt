use Rattle.std.proofs.Common.{length}
use Rattle.numa_host_pages.specs.declared.member.Member.{Member}
use Rattle.numa_host_pages.proofs.member.+put_pages.Given as goal

abbrev pub decreases-put_pages : goal.decreases-put_pages
decreases-put_pages l = length {A = Member} l.members.now
