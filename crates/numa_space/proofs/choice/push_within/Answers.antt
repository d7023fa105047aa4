use Rattle.std.proofs.Common.{◌≡◌, ◌<◌, ◌++◌, true, length, get_or, length-append, sym, ◌∙◌, arith}
use Rattle.std.proofs.Common.{lit<}
use Rattle.numa_mask.specs.NodeSet.{has}
use Rattle.numa_space.specs.Lists.{within}
use Rattle.numa_space.proofs.Chosen.{room-next}
use Rattle.numa_space.proofs.choice.push_within.Goals as goal

pub push-requires : goal.push-requires
push-requires c =
    let passes : has c.args.set.now (get_or c.args.order.now c.loop-node.node-index 0) ≡ true =
    sym c.has.ensures ∙ c.if-has.true in
    let room : length c.loop-node.list.items
    < length (c.args.list.now.items ++ within c.args.set.now c.args.order.now) =
    room-next (has c.args.set.now) c.loop-node.list.items
    (c.args.list.now.items ++ within c.args.set.now c.args.order.now) c.args.order.now
    c.loop-node.node-index c.loop-node-test.true passes c.loop-node.invariant in (
      lit< tt,
      omega (
        arith,
        room,
        c.requires,
        length-append c.args.list.now.items
            (within c.args.set.now c.args.order.now),
      ),
    )
