use Rattle.std.proofs.Common.{subst}
use Rattle.numa_run.specs.declared.running.Running.{Running}
use Rattle.numa_run.proofs.Taking.{AnswersSo, question-unready, question-written}
use Rattle.numa_run.proofs.script.Script.answer.Goals as goal

pub returns-in-Some : goal.returns-in-Some
returns-in-Some g c =
    rw c.in-Some.is
    (question-written g.W.Write.contents c.args.output.now c.answer.new.output
    c.in-Some.running.value c.answer.new.self c.args.question c.answer.result
    (subst (λ (r : Running). AnswersSo g.W.Write.contents c.args.output.now c.answer.new.output r
    c.answer.new.self c.args.question c.answer.result) c.deref_mut.ensures.value
    c.answer.ensures.answer) c.answer.ensures.ranges)

pub returns : goal.returns
returns g c =
    rw c.in_default.is
    (question-unready g.W.Write.contents c.args.output.now c.say_reply.new.output
    c.args.self.now.settings c.args.question c.say_reply.ensures)
