use Rattle.std.proofs.Common.{Some, sym, subst}
use Rattle.numa_host_script.specs.Standing.{StandsIn}
use Rattle.numa_host_script.specs.declared.running.RunningHost.{RunningHost}
use Rattle.numa_host_script.proofs.Told.{kept-pages, no-host}
use Rattle.numa_host_script.proofs.script.HostScript.pages_of.Goals as goal

pub returns-in_default : goal.returns-in_default
returns-in_default c =
    rw c.in_default.is
    (λ session stands. no-host c.args.self.now.script c.args.self.now.limits c.args.process
    session stands)

pub returns : goal.returns
returns c =
    rw c.in-Some.is
    (λ session stands.
    kept-pages c.args.self.now.script c.args.self.now.limits c.deref.result.now c.args.process
    c.pages_of.result session c.pages_of.ensures
    (subst (λ (r : RunningHost). StandsIn c.args.self.now.script c.args.self.now.limits
    (Some r) session) (sym c.deref.ensures) stands))
