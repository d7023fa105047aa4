use Rattle.std.proofs.Common.{sym, arith, rules}
use Rattle.numa_machine.specs.Faults.{is_bad_distance}
use Rattle.numa_machine.specs.Machine.{table_entry}
use Rattle.numa_machine.proofs.Nodes.{some_node-one, some_node-none}
use Rattle.numa_machine.proofs.description.has_bad_row.Goals as goal

pub returns-then-is_bad_distance : goal.returns-then-is_bad_distance
returns-then-is_bad_distance c =
    sym (some_node-one c.args.nodes
    (λ to. is_bad_distance c.args.from to
    (table_entry c.args.nodes c.args.distances.now c.args.from to)) c.loop-to.to (omega arith)
    (search rules))

pub returns : goal.returns
returns c =
    sym (some_node-none c.args.nodes
    (λ to. is_bad_distance c.args.from to
    (table_entry c.args.nodes c.args.distances.now c.args.from to))
    (λ to h. c.loop-to.invariant to (omega arith)))
