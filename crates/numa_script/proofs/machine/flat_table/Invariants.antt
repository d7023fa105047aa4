use Rattle.std.proofs.Common.{◌≡◌}
use Rattle.numa_script.specs.Machines.{flat_row}
use Rattle.std.specs.List.{range_with_len, flat_map}
use Rattle.numa_script.proofs.machine.flat_table.Given as goal

abbrev pub invariant-loop-from : goal.invariant-loop-from
invariant-loop-from l = l.table.items ≡ flat_map (flat_row l.nodes) (range_with_len 0 l.from)
