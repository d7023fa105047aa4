use Rattle.std.proofs.Common.{◌≡◌, ◌++◌, map, unwrap_or}
use Rattle.numa_script.specs.Machines.{distance_of}
use Rattle.numa_script.proofs.machine.add_row.Given as goal

abbrev pub invariant-loop-item : goal.invariant-loop-item
invariant-loop-item l = l.table.items ≡ l.initial.table.items
    ++ map (λ item. unwrap_or (distance_of item.now) 0) l.yielded
