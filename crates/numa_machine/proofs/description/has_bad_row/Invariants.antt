use Rattle.std.proofs.Common.{◌≡◌, ℕ, ◌<◌, false}
use Rattle.numa_machine.specs.Faults.{is_bad_distance}
use Rattle.numa_machine.specs.Machine.{table_entry}
use Rattle.numa_machine.proofs.description.has_bad_row.Given as goal

abbrev pub invariant-loop-to : goal.invariant-loop-to
invariant-loop-to l =
    (to : ℕ) → to < l.to → is_bad_distance l.from to (table_entry l.nodes l.distances l.from to)
    ≡ false
