-- The nodes so far are added, the others are as they were.
use Rattle.std.proofs.Common.{◌≡◌, ℕ, ◌<◌, ◌≤◌}
use Rattle.numa_host_pages.specs.Summed.{both_pages}
use Rattle.numa_moves.specs.Sums.{MergesAt, StaysAt}
use Rattle.numa_moves.proofs.sums.MoveSum.merge.Given as goal

abbrev pub invariant-loop-node : goal.invariant-loop-node
invariant-loop-node l = record {
  placed : l.self.placed ≡ both_pages l.fn.self.placed l.other.placed;
  moved : l.self.moved ≡ both_pages l.fn.self.moved l.other.moved;
  merged : (node : ℕ) → node < l.node → node < 256 → MergesAt l.fn.self l.other node l.self;
  apart : (node : ℕ) → l.node ≤ node → node < 256 → StaysAt l.fn.self node l.self;
}
