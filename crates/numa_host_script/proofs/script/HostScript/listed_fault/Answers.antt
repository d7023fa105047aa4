use Rattle.std.proofs.Common.{Some, sym, subst}
use Rattle.numa_host_script.specs.Standing.{StandsIn}
use Rattle.numa_host_script.specs.declared.running.RunningHost.{RunningHost}
use Rattle.numa_host_script.proofs.Decided.{listed-well, moved-well, unlisted-foreign}
use Rattle.numa_host_script.proofs.Decided.{unlisted-nobody, unmoved-foreign, unmoved-nobody}
use Rattle.numa_host_script.proofs.script.HostScript.listed_fault.Goals as goal

pub returns-in_default-clause-listed : goal.returns-in_default-clause-listed
returns-in_default-clause-listed c =
    rw c.in_default.is
    (λ session task stands.
    unlisted-foreign c.args.self.now.script c.args.self.now.limits c.args.process session stands
    task)

pub returns-in_default-clause-moved : goal.returns-in_default-clause-moved
returns-in_default-clause-moved c =
    rw c.in_default.is
    (λ session stands.
    unmoved-foreign c.args.self.now.script c.args.self.now.limits c.args.process session stands)

pub returns-in-None-clause-listed : goal.returns-in-None-clause-listed
returns-in-None-clause-listed c =
    rw c.in-Some.is
    (λ session task stands.
    unlisted-nobody c.args.self.now.script c.args.self.now.limits c.deref.result.now
    c.args.process session c.in-None.ensures
    (subst (λ (r : RunningHost). StandsIn c.args.self.now.script c.args.self.now.limits
    (Some r) session) (sym c.deref.ensures) stands) task)

pub returns-in-None-clause-moved : goal.returns-in-None-clause-moved
returns-in-None-clause-moved c =
    rw c.in-Some.is
    (λ session stands.
    unmoved-nobody c.args.self.now.script c.args.self.now.limits c.deref.result.now
    c.args.process session c.in-None.ensures
    (subst (λ (r : RunningHost). StandsIn c.args.self.now.script c.args.self.now.limits
    (Some r) session) (sym c.deref.ensures) stands))

pub returns-in-Some-process-clause-listed : goal.returns-in-Some-process-clause-listed
returns-in-Some-process-clause-listed c =
    rw c.in-Some.is
    (λ session task stands.
    listed-well c.args.self.now.script c.args.self.now.limits c.deref.result.now
    c.args.process c.in-Some-process.field-0.now session c.in-Some-process.ensures
    (subst (λ (r : RunningHost). StandsIn c.args.self.now.script c.args.self.now.limits
    (Some r) session) (sym c.deref.ensures) stands) task)

pub returns-in-Some-process-clause-moved : goal.returns-in-Some-process-clause-moved
returns-in-Some-process-clause-moved c =
    rw c.in-Some.is
    (λ session stands.
    moved-well c.args.self.now.script c.args.self.now.limits c.deref.result.now
    c.args.process c.in-Some-process.field-0.now session c.in-Some-process.ensures
    (subst (λ (r : RunningHost). StandsIn c.args.self.now.script c.args.self.now.limits
    (Some r) session) (sym c.deref.ensures) stands))
