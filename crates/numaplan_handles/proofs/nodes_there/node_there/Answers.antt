use Rattle.std.proofs.Common.{◌∙◌, sym}
use Rattle.numaplan_handles.proofs.BothSizes.{large-node, lone-node, same-node}
use Rattle.numaplan_handles.proofs.nodes_there.node_there.Goals as goal

pub returns-in_default : goal.returns-in_default
returns-in_default c = rw c.in_default.is (λ spots memory are none.
    c.small_node.ensures spots are ∙ same-node spots c.args.page memory none)

pub returns-in-Some-at : goal.returns-in-Some-at
returns-in-Some-at c = rw c.in-Some.is (λ spots memory are huge.
    c.node.ensures ∙ large-node spots c.args.page c.in-Some.places.now.runs memory
    c.in-Some-at.spot huge (sym c.in-Some-at.is ∙ c.at.ensures))

pub returns-in-None : goal.returns-in-None
returns-in-None c = rw c.in-Some.is (λ spots memory are huge.
    c.small_node-in-None.ensures spots are
    ∙ lone-node spots c.args.page c.in-Some.places.now.runs memory huge
    (sym c.in-None.is ∙ c.at.ensures))
