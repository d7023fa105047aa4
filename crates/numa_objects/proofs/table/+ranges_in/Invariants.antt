use Rattle.std.proofs.Common.{length}
use Rattle.numa_objects.specs.Objects.{ObjectData}
use Rattle.numa_objects.proofs.table.+ranges_in.Given as goal

abbrev pub decreases-ranges_in : goal.decreases-ranges_in
decreases-ranges_in l = length {A = ObjectData} l.items.now
