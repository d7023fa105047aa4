use Rattle.numa_run.proofs.Fitting.{lacked-early, lacked-late, lacked-starved}
use Rattle.numa_run.proofs.running.Running.lack_pages.Goals as goal

pub returns-in_default : goal.returns-in_default
returns-in_default c = rw c.command_reply.ensures
    (lacked-starved c.args.self.now c.args.pages c.args.command.now)

pub returns-then-not-late : goal.returns-then-not-late
returns-then-not-late c =
    lacked-early c.args.self.now c.args.pages c.args.command.now c.in-Ok.late
    (rw c.space.ensures.space at c.in-Ok.ensures) c.accept.new.self c.accept.result
    c.if-not-late.true c.accept.ensures

pub returns : goal.returns
returns c =
    lacked-late c.args.self.now c.args.pages c.args.command.now c.in-Ok.late
    (rw c.space.ensures.space at c.in-Ok.ensures) c.in-Some.kept c.in-Some.is c.if-not-late.false
    c.refuse_kept.new.kept c.refuse_kept.ensures.rest c.refuse_kept.ensures.pools
    c.refuse_kept.ensures.runs
