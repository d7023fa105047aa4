use Rattle.std.proofs.Common.{length}
use Rattle.numa_host.specs.declared.group.ControlGroup.{ControlGroup}
use Rattle.numa_host.proofs.group.+is_within.Given as goal

abbrev pub decreases-is_within : goal.decreases-is_within
decreases-is_within l = length {A = ControlGroup} l.groups.now
