use Rattle.std.proofs.Common.{sym, arith, rules, below_more}
use Rattle.numa_machine.specs.Faults.{has_bad_distance, some_node, is_bad_distance}
use Rattle.numa_machine.specs.Machine.{table_entry}
use Rattle.numa_machine.proofs.Nodes.{some_node-one, some_node-none}
use Rattle.numa_machine.proofs.description.has_bad_distance.Goals as goal

pub returns-then-has_bad_row : goal.returns-then-has_bad_row
unfolding has_bad_distance
returns-then-has_bad_row c =
    sym (some_node-one c.args.nodes
    (λ from.
    some_node c.args.nodes
    (λ to. is_bad_distance from to (table_entry c.args.nodes c.args.distances.now from to)))
    c.loop-from.from (omega arith) (search rules))

pub loop-from-preserved : goal.loop-from-preserved
loop-from-preserved c = below_more _ _ c.loop-from.invariant (search rules)

pub returns : goal.returns
unfolding has_bad_distance
returns c =
    sym (some_node-none c.args.nodes
    (λ from.
    some_node c.args.nodes
    (λ to. is_bad_distance from to (table_entry c.args.nodes c.args.distances.now from to)))
    (λ from h. c.loop-from.invariant from (omega arith)))
