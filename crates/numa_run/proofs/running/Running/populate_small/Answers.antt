use Rattle.numa_run.proofs.Populated.{small-comes}
use Rattle.numa_run.proofs.running.Running.populate_small.Goals as goal

pub returns : goal.returns
returns c =
    rw c.taken_by.ensures
    (small-comes c.args.self.now c.args.said.now.start c.args.said.now.length
    c.args.said.now.task c.args.said.now.cpu c.forget_arrived.new.huge c.change.new.self
    c.change.result c.requires c.forget_arrived.ensures c.change.ensures.changes)
