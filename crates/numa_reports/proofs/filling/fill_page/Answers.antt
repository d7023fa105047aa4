use Rattle.numa_reports.proofs.Taking.{free-took}
use Rattle.numa_reports.proofs.filling.fill_page.Goals as goal

pub returns-in-Ok-clause-free : goal.returns-in-Ok-clause-free
returns-in-Ok-clause-free c = free-took c.args.asked.plan.now c.args.asked.touch.task
    c.args.asked.touch.cpu
    c.args.page c.in-Ok.nodes.now c.args.free.now c.take_first.new.free c.take_first.result
    c.in-Ok.ensures.ok.1 c.take_first.ensures.node c.take_first.ensures.taken
