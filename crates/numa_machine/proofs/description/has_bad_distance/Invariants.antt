use Rattle.std.proofs.Common.{◌≡◌, ℕ, ◌<◌, false}
use Rattle.numa_machine.specs.Faults.{some_node, is_bad_distance}
use Rattle.numa_machine.specs.Machine.{table_entry}
use Rattle.numa_machine.proofs.description.has_bad_distance.Given as goal

abbrev pub invariant-loop-from : goal.invariant-loop-from
invariant-loop-from l =
    (from : ℕ) → from < l.from
    → some_node l.nodes
    (λ to. is_bad_distance from to (table_entry l.nodes l.distances from to)) ≡ false
