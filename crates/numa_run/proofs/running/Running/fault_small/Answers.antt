use Rattle.numa_run.proofs.Faulted.{small-done, small-starved}
use Rattle.numa_run.proofs.PageChanges.{begun-pages}
use Rattle.numa_run.proofs.running.Running.fault_small.Goals as goal

pub returns-then-begins_starved : goal.returns-then-begins_starved
returns-then-begins_starved c =
    small-starved c.args.self.now c.args.task c.args.address c.args.cpu c.begins_starved.new.state
    (c.begins_starved.ensures.starved c.if-begins_starved.true)

pub returns : goal.returns
returns c =
    rw c.fault_reply.ensures
    (small-done c.args.self.now c.args.task c.args.address c.args.cpu c.in-Some.kept
    c.fault-done.new.self c.fault-done.result
    (begun-pages c.args.self.now.pages c.begins_starved.new.state c.in-Some.kept c.in-Some.is
    (c.begins_starved.ensures.kept c.if-begins_starved.false))
    (rw c.space.ensures.space at c.fault-done.ensures))
