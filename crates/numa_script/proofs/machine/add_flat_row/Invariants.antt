use Rattle.std.proofs.Common.{◌≡◌, ◌++◌}
use Rattle.numa_script.specs.Machines.{flat_distance}
use Rattle.std.proofs.Common.{map}
use Rattle.std.specs.List.{range_with_len}
use Rattle.numa_script.proofs.machine.add_flat_row.Given as goal

abbrev pub invariant-loop-to : goal.invariant-loop-to
invariant-loop-to l = l.table.items ≡ l.initial.table.items
    ++ map (flat_distance l.from) (range_with_len 0 l.to)
