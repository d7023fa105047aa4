use Rattle.std.proofs.Common.{sym, ◌∙◌}
use Rattle.numa_run.proofs.Obeys.{unmap-denied, unmap-goes, unmap-plain, unmap-stays}
use Rattle.numa_run.proofs.running.Running.unmap_small.Goals as goal

pub returns-in-Err : goal.returns-in-Err
returns-in-Err c =
    rw c.command_reply.ensures
    (unmap-denied c.args.self.now c.args.start c.args.length c.in-Err.refusal c.in-Err.ensures)

pub returns-in_default : goal.returns-in_default
returns-in_default c =
    unmap-plain c.args.self.now c.args.start c.args.length c.accept.new.self c.accept.result
    (rw c.in_default.is at c.in-Ok.ensures) c.accept.ensures

pub returns-then-is_err : goal.returns-then-is_err
returns-then-is_err c =
    rw c.accept_reply.ensures
    (unmap-stays c.args.self.now c.args.start c.args.length c.accept-answer.new.self
    c.accept-answer.ensures.setup c.in-Some.after
    (rw c.in-Some.is at c.in-Ok.ensures) c.accept-answer.result
    (sym c.is_err.ensures.value ∙ c.if-is_err.true) c.accept-answer.ensures.answer)

pub returns : goal.returns
returns c =
    rw c.accept_reply-2.ensures
    (unmap-goes c.args.self.now c.args.start c.args.length c.accept-answer.new.self
    c.accept-answer.ensures.setup c.in-Some.after
    (rw c.in-Some.is at c.in-Ok.ensures) c.accept-answer.result
    (sym c.is_err.ensures.value ∙ c.if-is_err.false) c.replace.new.state
    c.accept-answer.ensures.answer c.replace.ensures)
