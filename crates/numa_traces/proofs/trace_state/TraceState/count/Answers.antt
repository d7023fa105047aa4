use Rattle.std.proofs.Common.{refl}
use Rattle.numa_traces.proofs.Replays.{on-ok}
use Rattle.numa_traces.proofs.trace_state.TraceState.count.Goals as goal

pub returns-clause-counts : goal.returns-clause-counts
returns-clause-counts c = on-ok c.count.result
    (λ counts. record { same = refl; frames = c.count.ensures.frames; counts = counts })
    c.count.ensures.counts
