use Rattle.std.proofs.Common.{◌∙◌, arith}
use Rattle.numa_host_pages.proofs.Sums.{nodes-went, pages-went}
use Rattle.numaplan_handles.proofs.flows.small_row.Goals as goal

pub returns-in-Nodes : goal.returns-in-Nodes
returns-in-Nodes c = λ done tells to small.
    c.to_one.ensures to small
    ∙ nodes-went c.in-Nodes.moved c.args.last.now done c.args.from to c.in-Nodes.is tells
    (omega arith)

pub returns-in-Pages : goal.returns-in-Pages
returns-in-Pages c = λ done tells to small.
    c.flow_from.ensures to small
    ∙ pages-went c.in-Pages.gone c.args.last.now done c.args.from to c.in-Pages.is tells
