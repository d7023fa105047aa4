use Rattle.std.proofs.Common.{◌≡◌, ◌+◌, ◌*◌, ◌≤◌, length, sum_by, filter}
use Rattle.std.specs.Prelude.{nat_lt}
use Rattle.numa_mask.specs.NodeSet.{members}
use Rattle.numa_machine.specs.Weights.{weight_at}
use Rattle.numa_rules.proofs.rule.weight_below.Given as goal

abbrev pub invariant-loop-member : goal.invariant-loop-member
invariant-loop-member l = record {
  sum : l.sum
      + sum_by (weight_at l.weights) (filter (λ m. nat_lt m l.fn.node) (members l.member-iterator))
      ≡ sum_by (weight_at l.weights) (filter (λ m. nat_lt m l.fn.node) (members l.set));
  count : length l.yielded + length (members l.member-iterator) ≡ length (members l.set);
  high : l.sum ≤ 255 * length l.yielded;
}
