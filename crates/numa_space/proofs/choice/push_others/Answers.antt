use Rattle.std.proofs.Common.{◌≡◌, ◌<◌, ◌++◌, ◌&&◌, not, ℕ, Bool, true, length, filter, get_or}
use Rattle.std.proofs.Common.{length-append, sym, ◌∙◌, arith, lit<}
use Rattle.numa_mask.specs.NodeSet.{has}
use Rattle.numa_space.proofs.Chosen.{room-next}
use Rattle.numa_space.proofs.choice.push_others.Goals as goal

pub push-requires : goal.push-requires
push-requires c =
    let other : ℕ → Bool = λ node. has c.args.allowed.now node && not (has c.args.set.now node) in
    let node : ℕ = get_or c.args.order.now c.loop-node.node-index 0 in
    let passes : other node ≡ true =
    (λ i. (sym c.has.ensures ∙ c.if-has.true) i
    && not ((sym c.has-then-has.ensures ∙ c.if-not-has.true) i)) in
    let room : length c.loop-node.list.items
    < length (c.args.list.now.items ++ filter other c.args.order.now) =
    room-next other c.loop-node.list.items (c.args.list.now.items ++ filter other c.args.order.now)
    c.args.order.now c.loop-node.node-index c.loop-node-test.true passes
    c.loop-node.invariant in (
      lit< tt,
      omega (
        arith,
        room,
        c.requires,
        length-append c.args.list.now.items
            (filter other c.args.order.now),
      ),
    )
