use Rattle.std.proofs.Common.{subst}
use Rattle.numa_run.specs.Standing.{Takes}
use Rattle.numa_run.specs.declared.running.Running.{Running}
use Rattle.numa_run.proofs.Taking.{taken-later}
use Rattle.numa_run.proofs.script.Script.take.Goals as goal

pub returns-in-Some : goal.returns-in-Some
returns-in-Some c =
    rw c.in-Some.is
    (taken-later c.in-Some.running.value c.take.new.self c.args.line.now c.take.result
    (subst (λ (r : Running). Takes r c.args.line.now c.take.result c.take.new.self)
    c.deref_mut.ensures.value c.take.ensures))

pub returns : goal.returns
returns c = rw c.in_default.is c.reply_first.ensures
