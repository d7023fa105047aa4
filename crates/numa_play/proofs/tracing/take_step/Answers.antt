use Rattle.std.proofs.Common.{IfErr, OnOk, subst, sym}
use Rattle.numa_traces.specs.PlanReading.{step_said}
use Rattle.numa_traces.specs.declared.trace_state.TraceStep.{TraceStep}
use Rattle.numa_traces.proofs.Replays.{on-ok}
use Rattle.numa_play.specs.Deeds.{EndsStep, TakesStep}
use Rattle.numa_play.proofs.tracing.take_step.Goals as goal

pub returns-in-Closes-clause-ok : goal.returns-in-Closes-clause-ok
returns-in-Closes-clause-ok c session stands =
    subst (λ (said : TraceStep). OnOk c.close.result (TakesStep c.args.process (step_said said)
    session c.args.script.now c.args.state.now c.close.new.self)) (sym c.in-Closes.is)
    (on-ok c.close.result (λ closes. (stands, closes)) c.close.ensures.closes)

pub returns-in-Closes-clause-err : goal.returns-in-Closes-clause-err
returns-in-Closes-clause-err c session stands =
    subst (λ (said : TraceStep). IfErr c.close.result (EndsStep c.args.process (step_said said)
    session)) (sym c.in-Closes.is) c.close.ensures.memory
