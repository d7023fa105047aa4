use Rattle.std.proofs.Common.{length}
use Rattle.numa_host_pages.specs.declared.member.Member.{Member}
use Rattle.numa_host_pages.proofs.summing.+huge_flows.Given as goal

abbrev pub decreases-huge_flows : goal.decreases-huge_flows
decreases-huge_flows l = length {A = Member} l.members.now
