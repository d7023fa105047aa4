use Rattle.std.proofs.Common.{length}
use Rattle.numa_objects.specs.Objects.{ObjectData}
use Rattle.numa_objects.proofs.table.+has_named.Given as goal

abbrev pub decreases-has_named : goal.decreases-has_named
decreases-has_named l = length {A = ObjectData} l.items.now
