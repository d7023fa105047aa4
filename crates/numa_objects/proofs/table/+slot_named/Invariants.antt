use Rattle.std.proofs.Common.{length}
use Rattle.numa_objects.specs.Objects.{ObjectData}
use Rattle.numa_objects.proofs.table.+slot_named.Given as goal

abbrev pub decreases-slot_named : goal.decreases-slot_named
decreases-slot_named l = length {A = ObjectData} l.items.now
