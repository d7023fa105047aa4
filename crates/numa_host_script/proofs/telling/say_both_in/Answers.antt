use Rattle.numa_lines.proofs.Adding.{said_same}
use Rattle.numa_host_script.proofs.Told.{moved-some}
use Rattle.numa_host_script.proofs.telling.say_both_in.Goals as goal

pub returns-in-Some : goal.returns-in-Some
returns-in-Some g c = λ done memory lasts tells.
    said_same g.W.Write.contents c.args.output.now c.say_added.new.output _ _
    (moved-some c.args.version c.args.last.now done c.in-Some.kept.now.last memory lasts
    (rw c.in-Some.is at tells)) c.say_added.ensures

pub returns-in-None : goal.returns-in-None
returns-in-None g c = λ done memory lasts tells.
    rw (rw c.in-None.is at tells) (c.say_last.ensures done lasts)
