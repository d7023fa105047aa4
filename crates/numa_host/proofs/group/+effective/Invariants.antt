use Rattle.std.proofs.Common.{length}
use Rattle.numa_host.specs.declared.group.ControlGroup.{ControlGroup}
use Rattle.numa_host.proofs.group.+effective.Given as goal

abbrev pub decreases-effective : goal.decreases-effective
decreases-effective l = length {A = ControlGroup} l.groups.now
