use Rattle.std.proofs.Common.{length}
use Rattle.numa_host.specs.declared.group.ControlGroup.{ControlGroup}
use Rattle.numa_host_pages.proofs.order.+add_below.Given as goal

abbrev pub decreases-add_below : goal.decreases-add_below
decreases-add_below l = length {A = ControlGroup} l.groups.now
