use Rattle.std.proofs.Common.{◌≡◌, map, unwrap_or}
use Rattle.std.specs.List.{flat_map}
use Rattle.numa_script.specs.Machines.{distance_of}
use Rattle.numa_script.specs.Parts.{items_of}
use Rattle.numa_script.proofs.machine.Entries.numbers.Given as goal

abbrev pub invariant-loop-row : goal.invariant-loop-row
invariant-loop-row l = l.table.items ≡ map (λ item. unwrap_or (distance_of item) 0)
    (flat_map items_of (map (λ row. row.now) l.yielded))
