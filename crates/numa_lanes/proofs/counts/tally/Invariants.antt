use Rattle.std.proofs.Common.{◌≡◌, ◌<◌, ◌+◌, ℕ, get_or, length, take}
use Rattle.numa_lanes.specs.Spans.{node_count}
use Rattle.numa_lanes.proofs.counts.tally.Given as goal

abbrev pub invariant-loop-entry : goal.invariant-loop-entry
invariant-loop-entry l = record {
  added : (node : ℕ) → node < 256 → get_or l.counts node 0 ≡ get_or l.fn.counts node 0 + node_count
      node (take l.entry-index l.span);
  long : length l.counts ≡ 256;
}
