use Rattle.std.proofs.Common.{◌≡◌, ◌≤◌, ◌*◌, length, take}
use Rattle.std.specs.Simd.Lanes.{Each1, sum_l}
use Rattle.numa_lanes.specs.Spans.{node_count}
use Rattle.numa_lanes.proofs.count.count_block.Given as goal

abbrev pub invariant-loop-round : goal.invariant-loop-round
invariant-loop-round l = record {
  sum : sum_l l.sums ≡ node_count l.node (take (l.round * 32) l.block);
  most : Each1 (λ sum. sum ≤ l.round) l.sums;
  long : length l.sums ≡ 32;
}
