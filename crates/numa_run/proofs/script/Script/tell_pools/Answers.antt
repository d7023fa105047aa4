use Rattle.std.proofs.Common.{subst}
use Rattle.numa_run.specs.HugeLines.{pools_on}
use Rattle.numa_run.specs.PoolTexts.{pools_line}
use Rattle.numa_run.proofs.Taking.{Tells, pools-unready, pools-written}
use Rattle.numa_run.proofs.script.Script.tell_pools.Goals as goal

pub returns-in_default : goal.returns-in_default
returns-in_default g c =
    rw c.in_default.is
    (pools-unready g.W.Write.contents c.args.output.now c.say_reply.new.output
    c.args.self.now.settings c.say_reply.ensures)

pub returns : goal.returns
returns g c =
    rw c.in-Some.is
    (pools-written g.W.Write.contents c.args.output.now c.tell_pools.new.output
    c.in-Some.running.value (subst (Tells g.W.Write.contents c.args.output.now
    c.tell_pools.new.output (λ machine state. pools_line (pools_on machine state)))
    c.deref.ensures c.tell_pools.ensures))
