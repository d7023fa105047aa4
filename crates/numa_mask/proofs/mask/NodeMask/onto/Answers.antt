use Rattle.std.proofs.Common.{◌≡◌, Some, None, sym, ap, ◌∙◌}
use Rattle.numa_mask.specs.NodeSet.{nth_member, with_node}
use Rattle.numa_mask.proofs.Members.{set_of-image, set_of-no_image}
use Rattle.numa_mask.proofs.mask.NodeMask.onto.Goals as goal

pub loop-node-preserved-in-Some-nth : goal.loop-node-preserved-in-Some-nth
loop-node-preserved-in-Some-nth c =
    let image : nth_member c.args.other.now c.in-Some.node ≡ Some c.in-Some-nth.image = cc in
    c.insert.ensures ∙ ap (λ s. with_node s c.in-Some-nth.image) c.loop-node.invariant
    ∙ sym (set_of-image (nth_member c.args.other.now) c.loop-node.yielded _ _ image)

pub loop-node-preserved : goal.loop-node-preserved
loop-node-preserved c =
    let none : nth_member c.args.other.now c.in-Some.node ≡ None = cc in
    c.loop-node.invariant ∙ sym (set_of-no_image (nth_member c.args.other.now) c.loop-node.yielded _
    none)
