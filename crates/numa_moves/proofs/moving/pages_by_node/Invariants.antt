-- The pages of the shares so far, and of those that are left, are all.
use Rattle.std.proofs.Common.{◌≡◌, ℕ, ◌+◌, ◌<◌, ◌^◌, drop, get_or}
use Rattle.numa_moves.specs.Shares.{pages_on}
use Rattle.numa_moves.proofs.moving.pages_by_node.Given as goal

abbrev pub invariant-loop-share : goal.invariant-loop-share
invariant-loop-share l = (node : ℕ) → node < 256 → pages_on l.shares node < 2 ^ 64
    → get_or l.counts node 0 + pages_on (drop l.share-index l.shares) node ≡ pages_on l.shares node
