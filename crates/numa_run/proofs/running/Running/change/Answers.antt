use Rattle.numa_run.proofs.PageChanges.{begun-pages, change-done, change-starved}
use Rattle.numa_run.proofs.running.Running.change.Goals as goal

pub returns-then-begins_starved-clause-changes : goal.returns-then-begins_starved-clause-changes
returns-then-begins_starved-clause-changes c =
    rw c.lack_reply.ensures
    (change-starved c.args.self.now c.args.line.now c.begins_starved.new.state
    (c.begins_starved.ensures.starved c.if-begins_starved.true))

pub returns-clause-changes : goal.returns-clause-changes
returns-clause-changes c =
    change-done c.args.self.now c.args.line.now c.in-Some.kept c.change.new.kept c.change.result
    (begun-pages c.args.self.now.pages c.begins_starved.new.state c.in-Some.kept c.in-Some.is
    (c.begins_starved.ensures.kept c.if-begins_starved.false))
    (rw c.space.ensures.space at c.change.ensures.does)
