use Rattle.std.proofs.Common.{Err, refl}
use Rattle.numa_script.specs.declared.reply.Reply.TheVariants as reply
use Rattle.numa_host_script.specs.Hosts.{plenty}
use Rattle.numa_host_script.specs.Paging.{given_outcome}
use Rattle.numa_host_script.proofs.Obeyed.{still}
use Rattle.numa_host_script.proofs.paging.give.Goals as goal

pub returns-in-Ok : goal.returns-in-Ok
returns-in-Ok c = rw c.in-Ok.is c.obeyed.ensures.runs

pub returns-in-Err : goal.returns-in-Err
returns-in-Err c =
    rw c.in-Err.is (still c.args.running.now (reply.BadWord c.in-Err.fault)
    (λ lack at. given_outcome lack.lacked at c.args.process (Err c.in-Err.fault)) plenty
    (λ at stands. refl))
