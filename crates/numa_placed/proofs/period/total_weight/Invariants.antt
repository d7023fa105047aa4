use Rattle.std.proofs.Common.{◌≡◌, ◌+◌, ◌*◌, ◌≤◌, length, sum_by}
use Rattle.numa_mask.specs.NodeSet.{members}
use Rattle.numa_machine.specs.Weights.{weight_at}
use Rattle.numa_placed.proofs.period.total_weight.Given as goal

abbrev pub invariant-loop-node : goal.invariant-loop-node
invariant-loop-node l = record {
  sum : l.total + sum_by (weight_at l.weights) (members l.node-iterator)
      ≡ sum_by (weight_at l.weights) (members l.set);
  count : length l.yielded + length (members l.node-iterator) ≡ length (members l.set);
  high : l.total ≤ 255 * length l.yielded;
}
