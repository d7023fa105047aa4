use Rattle.numa_lines.proofs.Adding.{said_same}
use Rattle.numa_run.proofs.Telling.{arrival-told}
use Rattle.numa_host_script.proofs.Told.{arrived-small, arrived-some}
use Rattle.numa_host_script.proofs.telling.say_arrived_with.Goals as goal

pub returns-in_default : goal.returns-in_default
returns-in_default g c = λ arrival memory so tells.
    rw (rw c.in_default.is at tells)
    (said_same g.W.Write.contents c.args.output.now c.say_arrived.new.output _ _
    (arrival-told c.args.version c.args.done.now arrival so) c.say_arrived.ensures)

pub returns-in-Some-arrived : goal.returns-in-Some-arrived
returns-in-Some-arrived g c = λ arrival memory so tells.
    said_same g.W.Write.contents c.args.output.now c.say_both_arrived.new.output _ _
    (arrived-some c.args.version c.args.done.now arrival c.in-Some-arrived.arrived
    c.in-Some.kept.now.arrived memory so c.in-Some-arrived.is (rw c.in-Some.is at tells))
    c.say_both_arrived.ensures

pub returns-in-None : goal.returns-in-None
returns-in-None g c = λ arrival memory so tells.
    said_same g.W.Write.contents c.args.output.now c.say_arrived-in-None.new.output _ _
    (arrived-small c.args.version c.args.done.now arrival c.in-Some.kept.now.arrived memory so
    c.in-None.is (rw c.in-Some.is at tells)) c.say_arrived-in-None.ensures
