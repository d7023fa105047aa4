use Rattle.std.proofs.Common.{refl}
use Rattle.numa_traces.proofs.Replays.{on-ok}
use Rattle.numa_traces.proofs.plan_reading.PlanReplayReplayLine.replay_line.Goals as goal

pub returns-clause-ok : goal.returns-clause-ok
returns-clause-ok c =
    on-ok c.replay_line.result (λ step. record { plan = refl; before = refl; state = step })
    c.replay_line.ensures.ok
