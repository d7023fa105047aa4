use Rattle.std.proofs.Common.{◌≡◌, ◌++◌, sym, ap, ◌∙◌, lit<}
use Rattle.numa_mask.specs.NodeSet.{members, set_of}
use Rattle.numa_mask.proofs.Images.{row_fits, row_more, row_all, set_of-members}
use Rattle.numa_mask.proofs.ranked.Ranked.of.Goals as goal

pub loop-node-init : goal.loop-node-init
loop-node-init c =
    ap members
    (sym (c.into_iter-node-iterator.ensures.into_iter_gives ∙ c.iter-node-items.ensures.members))
    ∙ ap (λ row. row ++ members c.into_iter-node-iterator.result) (sym c.new-nodes.ensures)

pub push-requires : goal.push-requires
push-requires c = (
  lit< tt,
  row_fits c.args.set.now c.loop-node.node-iterator c.next.new.self c.in-Some.node
      c.loop-node.nodes.items c.loop-node.invariant c.in-Some.ensures.steps,
)

pub loop-node-preserved : goal.loop-node-preserved
loop-node-preserved c = row_more c.args.set.now c.loop-node.node-iterator c.next.new.self
    c.in-Some.node c.number.result c.loop-node.nodes.items c.push.new.self.items
    c.loop-node.invariant c.in-Some.ensures.steps c.number.ensures.number c.push.ensures.items

pub returns : goal.returns
returns c =
    let row : members c.args.set.now ≡ c.loop-node.nodes.items =
    row_all c.args.set.now c.loop-node.node-iterator c.loop-node.nodes.items
    c.loop-node.invariant c.in-None.ensures.steps.0 in
    ap set_of (sym row) ∙ set_of-members c.args.set.now c.iter-node-items.ensures.within

pub invariant_of-result : goal.invariant_of-result
invariant_of-result c =
    let row : members c.args.set.now ≡ c.loop-node.nodes.items =
    row_all c.args.set.now c.loop-node.node-iterator c.loop-node.nodes.items
    c.loop-node.invariant c.in-None.ensures.steps.0 in
    sym row
    ∙ ap members
    (sym (ap set_of (sym row) ∙ set_of-members c.args.set.now c.iter-node-items.ensures.within))
