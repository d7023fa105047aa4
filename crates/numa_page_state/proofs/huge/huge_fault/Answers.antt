use Rattle.std.proofs.Common.{Option, ap, refl, sym, ◌∙◌}
use Rattle.numa_huge.specs.Huge.{node_of}
use Rattle.numa_huge.specs.declared.spot.HugeSpot.{HugeSpot}
use Rattle.numa_huge.proofs.Keeping.{keeps-same}
use Rattle.numa_page_state.specs.Huge.{huge_page}
use Rattle.numa_page_state.proofs.Faulted.{huge-came, huge-there}
use Rattle.numa_page_state.proofs.huge.huge_fault.Goals as goal

pub fault-given-requires-clause-untouched : goal.fault-given-requires-clause-untouched
fault-given-requires-clause-untouched c =
    ap node_of (sym c.at.ensures ∙ c.in-Some.is) ∙ sym c.node.ensures ∙ c.in_default-node.is

pub returns-in-Some-node-clause-faults : goal.returns-in-Some-node-clause-faults
returns-in-Some-node-clause-faults c =
    huge-there c.args.huge.now (huge_page c.args.address) c.args.nodes.now c.in-Some-node.node
    (ap node_of (sym c.at.ensures ∙ c.in-Some.is) ∙ sym c.node.ensures ∙ c.in-Some-node.is)

pub returns-clause-faults : goal.returns-clause-faults
returns-clause-faults c =
    huge-came c.args.huge.now (huge_page c.args.address) c.args.nodes.now c.fault-given.new.self
    c.fault-given.result (ap node_of (sym c.at.ensures ∙ c.in-Some.is) ∙ sym c.node.ensures ∙ c.in_default-node.is)
    c.fault-given.ensures.node c.fault-given.ensures.pages c.fault-given.ensures.err
    c.fault-given.ensures.unchanged c.runs.ensures.few

pub returns-in-Some-node-clause-keeps : goal.returns-in-Some-node-clause-keeps
returns-in-Some-node-clause-keeps c = keeps-same c.args.huge.now c.args.huge.now refl

pub returns-clause-keeps : goal.returns-clause-keeps
returns-clause-keeps c = c.fault-given.ensures.keeps
