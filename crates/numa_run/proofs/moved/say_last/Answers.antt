use Rattle.numa_lines.proofs.Adding.{said_same}
use Rattle.numa_run.proofs.Flows.{nodes-told, pages-told}
use Rattle.numa_run.proofs.moved.say_last.Goals as goal

pub returns-in-Nodes : goal.returns-in-Nodes
returns-in-Nodes g c done tells =
    said_same g.W.Write.contents c.args.output.now c.say_told.new.output _ _
    (nodes-told c.args.version c.in-Nodes.moved c.args.last.now done c.in-Nodes.is tells)
    c.say_told.ensures

pub returns-in-Pages : goal.returns-in-Pages
returns-in-Pages g c done tells =
    said_same g.W.Write.contents c.args.output.now c.say_departed.new.output _ _
    (pages-told c.args.version c.in-Pages.done c.args.last.now done c.in-Pages.is tells)
    c.say_departed.ensures
