use Rattle.std.proofs.Common.{length}
use Rattle.numa_host_pages.specs.declared.member.Member.{Member}
use Rattle.numa_host_pages.proofs.summing.+add_flows.Given as goal

abbrev pub decreases-add_flows : goal.decreases-add_flows
decreases-add_flows l = length {A = Member} l.members.now
