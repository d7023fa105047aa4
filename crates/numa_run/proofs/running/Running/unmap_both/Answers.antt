use Rattle.std.proofs.Common.{sym, ◌∙◌}
use Rattle.numa_run.proofs.Unmapped.{both-goes, both-stays}
use Rattle.numa_run.proofs.running.Running.unmap_both.Goals as goal

pub returns-then-is_err : goal.returns-then-is_err
returns-then-is_err c = λ state stands forgets without.
    rw c.accept_reply.ensures
    (both-stays c.args.self.now c.in-Some.kept c.in-Some.is c.args.start c.args.length
    c.accept-answer.new.self c.accept-answer.ensures.setup state stands c.args.small forgets
    c.args.huge without c.runs.ensures.few c.accept-answer.result
    (sym c.is_err.ensures.value ∙ c.if-is_err.true) c.accept-answer.ensures.answer)

pub returns : goal.returns
returns c = λ state stands forgets without.
    rw c.accept_reply-2.ensures
    (both-goes c.args.self.now c.in-Some.kept c.in-Some.is c.args.start c.args.length
    c.accept-answer.new.self c.accept-answer.ensures.setup state stands c.args.small forgets
    c.args.huge without c.runs.ensures.few c.accept-answer.result
    (sym c.is_err.ensures.value ∙ c.if-is_err.false) c.accept-answer.ensures.answer
    c.replace_if.new.pages c.replace_if.ensures.none c.replace_if.ensures.some
    c.settle.new.self c.settle.ensures)
