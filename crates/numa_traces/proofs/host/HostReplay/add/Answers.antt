use Rattle.std.proofs.Common.{[], refl, subst, sym}
use Rattle.numa_traces.specs.Hosting.{HasProcess, HostReplayed, IsHostReplay}
use Rattle.numa_traces.specs.declared.process.ProcessReplay.{ProcessReplay}
use Rattle.numa_traces.proofs.Hosts.{begun-with, one-more}
use Rattle.numa_traces.proofs.host.HostReplay.add.Goals as goal

pub returns-in-Ok-clause-replay : goal.returns-in-Ok-clause-replay
returns-in-Ok-clause-replay c room plans was is =
    let old : HostReplayed =
    record { processes = c.self.inside.processes.entries; free = c.self.inside.free.items } in
    let new : HostReplayed =
    record { processes = c.insert.new.self.entries; free = c.self.inside.free.items } in
    let one : ProcessReplay = record { plan = c.args.plan; replay = c.shared-replay.result } in
    begun-with room plans c.args.process old new one (sym is) c.shared-replay.ensures refl
    c.in-Ok.ensures.updates.0
    (subst (λ (met : HostReplayed). IsHostReplay room plans [] met) (sym c.self.view_is) was)

pub returns-in-Ok-clause-processes : goal.returns-in-Ok-clause-processes
returns-in-Ok-clause-processes c =
    let one : ProcessReplay = record { plan = c.args.plan; replay = c.shared-replay.result } in
    subst (λ (met : HostReplayed). HasProcess c.args.process met.processes
    c.insert.new.self.entries) c.self.view_is
    (one-more c.args.process c.self.inside.processes.entries c.insert.new.self.entries one
    c.in-Ok.ensures.updates.0)
