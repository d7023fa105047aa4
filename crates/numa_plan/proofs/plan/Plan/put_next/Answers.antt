use Rattle.numa_plan.proofs.FillLemmas.{marked_here, marked_none}
use Rattle.numa_plan.proofs.plan.Plan.put_next.Goals as goal

pub returns-in-Ok-clause-put : goal.returns-in-Ok-clause-put
returns-in-Ok-clause-put c = marked_here c.args.self.now c.args.task c.args.cpu c.args.unmapped
    c.put.result c.in-Ok.far c.come_to.new.near.page c.args.pages.now c.put.new.out
    c.come_to.new.near.found c.come_to.new.near.rule.now c.put.ensures.left c.come_to.ensures.near
    c.put.ensures.row c.put.ensures.put

pub returns-in-Err-clause-put : goal.returns-in-Err-clause-put
returns-in-Err-clause-put c = marked_none c.args.self.now c.args.task c.args.cpu c.args.unmapped
    c.put_mark.result c.in-Err.count _ c.args.pages.now c.put_mark.new.out c.put_mark.ensures.few
    c.in-Err.ensures.hole c.put_mark.ensures.row c.put_mark.ensures.put
