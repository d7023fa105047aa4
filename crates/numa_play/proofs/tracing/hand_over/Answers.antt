use Rattle.std.proofs.Common.{OnOk, subst}
use Rattle.numa_host_script.specs.Sessions.{Session}
use Rattle.numa_host_script.specs.Taking.{SessionStandsFor}
use Rattle.numa_traces.specs.Placing.{Frames}
use Rattle.numa_traces.proofs.Replays.{on-ok}
use Rattle.numa_play.specs.Deeds.{StatesPages}
use Rattle.numa_play.proofs.tracing.hand_over.Goals as goal

pub returns-in-Ok : goal.returns-in-Ok
returns-in-Ok c session stands =
    let said = c.in-Ok.ensures session stands in
    let stated = subst (λ (frames : Frames). OnOk c.state_pages.result ((then : Session)
    × SessionStandsFor c.state_pages.new.script then
    × StatesPages c.args.process frames.pages said.0 then)) c.memory.ensures
    (c.state_pages.ensures said.0 said.1) in
    on-ok c.state_pages.result (λ it. (said.0, said.2, it.0, it.2, it.1)) stated
