use Rattle.numaplan_handles.proofs.Flowing.{flows-departed, flows-moved}
use Rattle.numaplan_handles.proofs.flows.small_flows.Goals as goal

pub returns-in-Nodes : goal.returns-in-Nodes
returns-in-Nodes c = λ done tells.
    flows-moved c.in-Nodes.moved c.args.last.now done c.in-Nodes.is tells c.with_flows.result
    c.add_moved-added.result c.add_moved-added.new.flows.items c.new-flows.result.items
    c.new-flows.ensures.items c.with_flows.ensures c.add_moved-added.ensures

pub returns-in-Pages : goal.returns-in-Pages
returns-in-Pages c = λ done tells.
    flows-departed c.in-Pages.gone c.args.last.now done c.in-Pages.is tells
    c.with_flows-in-Pages.result c.add_departed-added.result
    c.add_departed-added.new.flows.items c.new-flows.result.items c.new-flows.ensures.items
    c.with_flows-in-Pages.ensures c.add_departed-added.ensures
