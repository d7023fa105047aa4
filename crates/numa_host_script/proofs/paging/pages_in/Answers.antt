use Rattle.std.proofs.Common.{Err, refl}
use Rattle.numa_script.specs.declared.line.Line.TheVariants as line
use Rattle.numa_script.specs.declared.policy.WordError.TheVariants as word_fault
use Rattle.numa_script.specs.declared.reply.Reply.TheVariants as reply
use Rattle.numa_host_script.specs.Standing.{told}
use Rattle.numa_host_script.proofs.Acted.{replied-still}
use Rattle.numa_host_script.proofs.paging.pages_in.Goals as goal

pub returns-in-Ok : goal.returns-in-Ok
returns-in-Ok c = rw c.in-Ok.is c.page_in.ensures

pub returns-in-Err : goal.returns-in-Err
returns-in-Err c =
    rw c.in-Err.is (replied-still c.args.running.now (told c.args.process
    (line.Pages (Err c.in-Err.fault))) (reply.BadWord (word_fault.List c.in-Err.fault))
    (λ lack at. refl))
