use Rattle.std.proofs.Common.{◌≡◌, ◌-◌, ◌<◌}
use Rattle.std.specs.List.{fold, range_with_len}
use Rattle.numa_mask.specs.NodeSet.{with_node}
use Rattle.numa_mask.proofs.list.insert_between.Given as goal

abbrev pub invariant-loop-number : goal.invariant-loop-number
invariant-loop-number l = record {
  set : l.set ≡ fold with_node l.fn.set (range_with_len l.first (l.number - l.first));
  none : l.last < l.first → l.number ≡ l.first;
}
