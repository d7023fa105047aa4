use Rattle.std.proofs.Common.{Ok, Err, ap, refl}
use Rattle.numa_script.specs.declared.reply.Reply.TheVariants as reply
use Rattle.numa_host_script.proofs.paging.obey_in.Goals as goal

pub returns-in-Ok : goal.returns-in-Ok
returns-in-Ok c = (Ok tt, c.in-Ok.ensures, ap reply.Accepted c.version.ensures.version)

pub returns-in-Err : goal.returns-in-Err
returns-in-Err c = (Err c.in-Err.refusal, c.in-Err.ensures, refl)
