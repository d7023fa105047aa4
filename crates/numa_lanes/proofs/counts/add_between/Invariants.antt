use Rattle.std.proofs.Common.{◌≡◌, ◌<◌, ◌≤◌, ◌+◌, ℕ, get_or, length}
use Rattle.numa_lanes.specs.Spans.{node_count}
use Rattle.numa_lanes.proofs.counts.add_between.Given as goal

abbrev pub invariant-loop-node : goal.invariant-loop-node
invariant-loop-node l = record {
  below : (node : ℕ) → node < l.node → node < 256 → get_or l.counts node 0 ≡ get_or l.fn.counts node
      0 + node_count node l.block;
  from : (node : ℕ) → l.node ≤ node → get_or l.counts node 0 ≡ get_or l.fn.counts node 0;
  long : length l.counts ≡ 256;
}
