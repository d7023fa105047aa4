use Rattle.std.proofs.Common.{◌≡◌, ◌+◌, ◌-◌, ◌≤◌}
use Rattle.std.specs.List.{prefix_len, range_with_len}
use Rattle.numa_mask.specs.NodeSet.{has}
use Rattle.numa_mask.specs.Lists.{run_end}
use Rattle.numa_mask.proofs.text.run_end.Given as goal

abbrev pub invariant-loop-last : goal.invariant-loop-last
invariant-loop-last l = record {
  ends : l.last + prefix_len (has l.set) (range_with_len (l.last + 1) (255 - l.last))
      ≡ run_end l.set l.fn.first;
  within : l.last ≤ 255;
}

abbrev pub decreases-loop-last : goal.decreases-loop-last
decreases-loop-last l = 255 - l.last
