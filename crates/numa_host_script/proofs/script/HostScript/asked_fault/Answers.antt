use Rattle.std.proofs.Common.{Some, None, sym, subst}
use Rattle.numa_host_script.specs.Standing.{StandsIn}
use Rattle.numa_host_script.specs.declared.running.RunningHost.{RunningHost}
use Rattle.numa_host_script.proofs.Decided.{told-foreign, told-nobody, told-there}
use Rattle.numa_host_script.proofs.script.HostScript.asked_fault.Goals as goal

pub returns-in_default : goal.returns-in_default
returns-in_default c =
    rw c.in_default.is
    (λ session stands.
    told-foreign c.args.self.now.script c.args.self.now.limits c.args.process c.args.question
    session stands)

pub returns-in_default-process : goal.returns-in_default-process
returns-in_default-process c =
    rw c.in-Some.is
    (λ session stands.
    told-nobody c.args.self.now.script c.args.self.now.limits c.deref.result.now c.args.process
    c.args.question session c.in_default-process.ensures
    (subst (λ (r : RunningHost). StandsIn c.args.self.now.script c.args.self.now.limits
    (Some r) session) (sym c.deref.ensures) stands))

pub returns-in-None : goal.returns-in-None
returns-in-None c =
    rw c.in-Some.is
    (λ session stands.
    told-there c.args.self.now.script c.args.self.now.limits c.deref.result.now c.args.process
    c.args.question c.in-Some-process.space.now None session c.in-Some-process.ensures
    c.in-None.ensures (subst (λ (r : RunningHost). StandsIn c.args.self.now.script
    c.args.self.now.limits
    (Some r) session) (sym c.deref.ensures) stands))

pub returns-in-Some-question_cause : goal.returns-in-Some-question_cause
returns-in-Some-question_cause c =
    rw c.in-Some.is
    (λ session stands.
    told-there c.args.self.now.script c.args.self.now.limits c.deref.result.now c.args.process
    c.args.question c.in-Some-process.space.now (Some c.in-Some-question_cause.cause) session
    c.in-Some-process.ensures c.in-Some-question_cause.ensures
    (subst (λ (r : RunningHost). StandsIn c.args.self.now.script c.args.self.now.limits
    (Some r) session) (sym c.deref.ensures) stands))
