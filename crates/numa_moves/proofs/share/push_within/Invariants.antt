-- The nodes so far.
use Rattle.std.proofs.Common.{◌≡◌, ◌++◌, slice_index}
use Rattle.numa_moves.specs.Shares.{shares_within}
use Rattle.numa_moves.proofs.share.push_within.Given as goal

abbrev pub invariant-loop-node : goal.invariant-loop-node
invariant-loop-node l = l.shares.items ≡ l.fn.shares.items
    ++ shares_within (slice_index l.counts) l.span l.node
