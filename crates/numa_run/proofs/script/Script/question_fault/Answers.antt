use Rattle.std.proofs.Common.{Some, None, subst}
use Rattle.numa_run.proofs.Faults.{IsCaused, question-bad, question-told}
use Rattle.numa_run.proofs.script.Script.question_fault.Goals as goal

pub returns-in-Some-question_cause : goal.returns-in-Some-question_cause
returns-in-Some-question_cause c =
    rw c.in-Some.is
    (question-told c.in-Some.running.value c.question_cause.new.self c.args.question
    (Some c.in-Some-question_cause.cause) (subst (IsCaused c.args.question
    (Some c.in-Some-question_cause.cause) c.question_cause.new.self) c.deref_mut.ensures.value
    c.in-Some-question_cause.ensures))

pub returns-in-None : goal.returns-in-None
returns-in-None c =
    rw c.in-Some.is
    (question-told c.in-Some.running.value c.question_cause.new.self c.args.question None
    (subst (IsCaused c.args.question None c.question_cause.new.self) c.deref_mut.ensures.value
    c.in-None.ensures))

pub returns : goal.returns
returns c = rw c.in_default.is (question-bad c.args.self.now.settings c.args.question)
