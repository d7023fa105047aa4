use Rattle.std.proofs.Common.{rules, ◌<◌, length, ap, ◌∙◌, sym}
use Rattle.numa_mask.specs.NodeSet.{members}
use Rattle.numa_mask.proofs.Members.{members-next, falls-next}
use Rattle.numa_mask.proofs.nodes.NodesIterator.next.Goals as goal

pub returns-clause-steps : goal.returns-clause-steps
returns-clause-steps c = ap members (sym c.self.view_is)
    ∙ members-next c.self.inside.rest c.remove.new.self c.in_ok-node.node
    (sym c.in_ok-node.ensures.first) c.remove.ensures.gone c.remove.ensures.others

pub returns-clause-goes : goal.returns-clause-goes
returns-clause-goes c =
    let falls : length (members c.remove.new.self) < length (members c.args.self.now) =
    falls-next c.args.self.now c.remove.new.self c.in_ok-node.node
    (ap members (sym c.self.view_is) ∙ members-next c.self.inside.rest c.remove.new.self
    c.in_ok-node.node (sym c.in_ok-node.ensures.first) c.remove.ensures.gone
    c.remove.ensures.others) in
    record { on = λ _. search (rules, falls); keeps = search rules; rests = search rules }
