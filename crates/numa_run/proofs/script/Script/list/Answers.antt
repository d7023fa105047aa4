use Rattle.std.proofs.Common.{subst}
use Rattle.numa_run.specs.Listings.{both_listing}
use Rattle.numa_run.specs.States.{process_on}
use Rattle.numa_run.proofs.Taking.{Tells, maps-unready, maps-written}
use Rattle.numa_run.proofs.script.Script.list.Goals as goal

pub returns-in_default : goal.returns-in_default
returns-in_default g c =
    rw c.in_default.is
    (maps-unready g.W.Write.contents c.args.output.now c.say_reply.new.output
    c.args.self.now.settings c.args.task c.say_reply.ensures)

pub returns : goal.returns
returns g c =
    rw c.in-Some.is
    (maps-written g.W.Write.contents c.args.output.now c.list.new.output c.in-Some.running.value
    c.args.task (subst (Tells g.W.Write.contents c.args.output.now c.list.new.output
    (λ machine state. both_listing (process_on machine state) state.lying.spots state.huge
    c.args.task)) c.deref.ensures c.list.ensures))
