use Rattle.std.proofs.Common.{◌≡◌, ◌+◌, ◌++◌, ◌≤◌, length}
use Rattle.numa_mask.specs.NodeSet.{members}
use Rattle.numa_machine.specs.Weights.{weight_at}
use Rattle.numa_compile.specs.Rules.{places_from}
use Rattle.numa_compile.proofs.turns.weighted_turns.Given as goal

abbrev pub invariant-loop-node : goal.invariant-loop-node
invariant-loop-node l = record {
  cycle : l.cycle.items ++ places_from l.place (weight_at l.weights) (members l.node-iterator)
      ≡ places_from 0 (weight_at l.weights) (members l.set);
  few : l.place + length (members l.node-iterator) ≤ 256;
  each : length (members l.set) ≤ length l.cycle.items + length (members l.node-iterator);
}
