use Rattle.std.proofs.Common.{◌≡◌, ap, subst, OnOk}
use Rattle.numa_traces.specs.Replaying.{Replayed}
use Rattle.numa_traces.specs.Tallies.{Counts}
use Rattle.numa_traces.proofs.replay.Replay.count.Goals as goal

pub returns-clause-frames : goal.returns-clause-frames
returns-clause-frames c = ap (λ (met : Replayed). met.frames) c.self.view_is

pub returns-clause-counts : goal.returns-clause-counts
returns-clause-counts c =
    let access = c.args.access in
    subst (λ (met : Replayed). OnOk c.add.result (Counts met.tallies
    (access.task, access.cpu, c.args.node) access.count c.args.is_fault c.add.new.self))
    c.self.view_is c.add.ensures.counts
