use Rattle.std.proofs.Common.{◌∙◌, sym}
use Rattle.numa_traces.specs.Resting.{lies_where}
use Rattle.numa_traces.proofs.Replays.{on-ok}
use Rattle.numa_traces.proofs.Stepped.{found-lies, found-none}
use Rattle.numa_traces.proofs.trace_state.find.Goals as goal

pub returns-in-Some-clause-found : goal.returns-in-Some-clause-found
returns-in-Some-clause-found c = on-ok c.lay.result
    (λ laid. laid ∙ sym (found-lies (lies_where c.args.before.now) c.args.replay.now c.args.page
    c.in-Some.node (sym c.lies_where.ensures ∙ c.in-Some.is))) c.lay.ensures.laid

pub returns-in-None-clause-found : goal.returns-in-None-clause-found
returns-in-None-clause-found c =
    sym (found-none (lies_where c.args.before.now) c.args.replay.now c.args.page
    (sym c.lies_where.ensures ∙ c.in-None.is))
