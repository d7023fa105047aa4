use Rattle.std.proofs.Common.{◌≡◌}
use Rattle.numa_mask.specs.Lists.{list_of}
use Rattle.numa_mask.proofs.Reading.{list_from}
use Rattle.numa_mask.proofs.list.read_list.Given as goal

abbrev pub invariant-loop-item : goal.invariant-loop-item
invariant-loop-item l = list_from l.set l.item-iterator ≡ list_of l.text
