use Rattle.std.proofs.Common.{ℕ, ap, sym, subst}
use Rattle.numa_lines.proofs.Adding.{said_same}
use Rattle.numa_space.specs.Standing.{StandsFor}
use Rattle.numa_run.specs.ArrivedTexts.{arrival_with}
use Rattle.numa_run.proofs.running.Running.tell_arrived.Goals as goal

pub returns : goal.returns
returns g c = λ state stands.
    let there = subst (λ s. StandsFor s state.world.history) (sym c.space.ensures.space)
    stands.core.world.space in
    said_same g.W.Write.contents c.args.output.now c.say_arrivals.new.output _ _
    (ap (λ (n : ℕ). arrival_with state.huge n state.lying.arrived)
    (c.version-version.ensures.meaning state.world.history there))
    (c.say_arrivals.ensures state.lying.arrived state.huge
    (c.arrived_in-done.ensures state.lying stands.lies) stands.huge)
