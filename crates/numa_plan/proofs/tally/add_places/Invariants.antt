use Rattle.std.proofs.Common.{◌≡◌, ◌<◌, ◌+◌, ◌*◌, ℕ, get_or, length, take}
use Rattle.numa_lanes.specs.Spans.{node_count}
use Rattle.numa_plan.proofs.tally.add_places.Given as goal

abbrev pub invariant-loop-node : goal.invariant-loop-node
invariant-loop-node l = record {
  added : (node : ℕ) → node < 256 → get_or l.counts node 0 ≡ get_or l.fn.counts node 0 + l.pages
      * node_count node (take l.node-index l.nodes);
  long : length l.counts ≡ 256;
}
