-- The nodes so far are cleared.
use Rattle.std.proofs.Common.{◌≡◌, ℕ, ◌<◌}
use Rattle.numa_moves.specs.Sums.{HasNoneAt}
use Rattle.numa_moves.proofs.sums.MoveSum.clear.Given as goal

abbrev pub invariant-loop-node : goal.invariant-loop-node
invariant-loop-node l = record {
  placed : l.self.placed ≡ 0;
  moved : l.self.moved ≡ 0;
  at : (node : ℕ) → node < l.node → node < 256 → HasNoneAt node l.self;
}
