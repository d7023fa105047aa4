use Rattle.std.proofs.Common.{◌+◌, sym, slice_index}
use Rattle.std.proofs.lemmas.List.{append-nil}
use Rattle.numa_moves.specs.Shares.{share_by, shares_within}
use Rattle.numa_moves.proofs.Lists.{more-shares, within-next}
use Rattle.numa_moves.proofs.share.push_within.Goals as goal

pub loop-node-init : goal.loop-node-init
loop-node-init c = sym (append-nil c.args.shares.now.items)

pub loop-node-preserved : goal.loop-node-preserved
loop-node-preserved c =
    let count = slice_index c.args.counts.now in
    more-shares c.args.shares.now.items c.loop-node.shares.items c.push_share.new.shares.items
    (shares_within count c.args.span c.loop-node.node)
    (share_by c.args.span c.loop-node.node (count c.loop-node.node))
    (shares_within count c.args.span (c.loop-node.node + 1)) c.loop-node.invariant
    c.in_ok-push_share.ensures (within-next count c.args.span c.loop-node.node)
