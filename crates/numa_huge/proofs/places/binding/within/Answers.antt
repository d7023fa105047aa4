use Rattle.std.proofs.Common.{◌≡◌, ◌<◌, true, length, get_or, sym, ◌∙◌, arith, lit<}
use Rattle.numa_mask.specs.NodeSet.{has}
use Rattle.numa_space.specs.Lists.{within}
use Rattle.numa_space.proofs.Chosen.{room-next}
use Rattle.numa_huge.proofs.Named.{within-few}
use Rattle.numa_huge.proofs.places.binding.within.Goals as goal

pub push-requires : goal.push-requires
push-requires c =
    let passes : has c.args.set.now (get_or c.args.nodes.now c.loop-node.node-index 0) ≡ true =
    sym c.has.ensures ∙ c.if-has.true in
    let room : length c.loop-node.found.items < length (within c.args.set.now c.args.nodes.now) =
    room-next (has c.args.set.now) c.loop-node.found.items
    (within c.args.set.now c.args.nodes.now) c.args.nodes.now
    c.loop-node.node-index c.loop-node-test.true passes c.loop-node.invariant in (
      lit< tt,
      omega (
        arith,
        room,
        c.requires,
        within-few c.args.set.now c.args.nodes.now,
      ),
    )
