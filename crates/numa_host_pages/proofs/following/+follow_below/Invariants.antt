use Rattle.std.proofs.Common.{length}
use Rattle.numa_host.specs.declared.group.ControlGroup.{ControlGroup}
use Rattle.numa_host_pages.proofs.following.+follow_below.Given as goal

abbrev pub decreases-follow_below : goal.decreases-follow_below
decreases-follow_below l = length {A = ControlGroup} l.groups.now
