use Rattle.std.proofs.Common.{ℕ, Option, None, Some, Ok, Err, Result, OnOk, IfErr, refl, subst}
use Rattle.numa_traces.specs.Phases.{Closes, Step, Touches}
use Rattle.numa_traces.specs.PlanReading.{EndsAtStep, ReplaysStep, step_told}
use Rattle.numa_traces.specs.Resting.{lies_where}
use Rattle.numa_traces.specs.declared.access.Access.{Access}
use Rattle.numa_traces.specs.declared.fault.ReplayError.{ReplayError}
use Rattle.numa_traces.proofs.trace_state.TraceState.replay_line.Goals as goal

abbrev Said : Type 0
Said = Result (Option (Step Access)) ReplayError

pub returns-in-Err-clause-err : goal.returns-in-Err-clause-err
returns-in-Err-clause-err c =
    subst (λ (said : Said). EndsAtStep c.args.plan.now (lies_where c.args.before.now) said
    c.args.self.now c.in-Err.fault) c.in-Err.ensures refl

pub returns-in-Ok-None-clause-ok : goal.returns-in-Ok-None-clause-ok
returns-in-Ok-None-clause-ok c =
    subst (λ (said : Said). ReplaysStep c.args.plan.now (lies_where c.args.before.now) said
    c.args.self.now c.args.self.now) (rw c.in-Ok-None.field-0-is at c.in-Ok-None.ensures) refl

pub returns-in-Ok-Some-Closes-clause-ok : goal.returns-in-Ok-Some-Closes-clause-ok
returns-in-Ok-Some-Closes-clause-ok c =
    subst (λ (said : Said). OnOk c.close.result (ReplaysStep c.args.plan.now
    (lies_where c.args.before.now) said c.args.self.now c.close.new.self))
    (rw (c.in-Ok-Some-Closes.field-0-is, c.in-Ok-Some-Closes.field-0-0-is)
    at c.in-Ok-Some-Closes.ensures)
    (c.close.ensures.ok c.args.plan.now (lies_where c.args.before.now))

pub returns-in-Ok-Some-Closes-clause-err : goal.returns-in-Ok-Some-Closes-clause-err
returns-in-Ok-Some-Closes-clause-err c =
    subst (λ (said : Said). IfErr c.close.result (EndsAtStep c.args.plan.now
    (lies_where c.args.before.now) said c.args.self.now))
    (rw (c.in-Ok-Some-Closes.field-0-is, c.in-Ok-Some-Closes.field-0-0-is)
    at c.in-Ok-Some-Closes.ensures)
    (c.close.ensures.err c.args.plan.now (lies_where c.args.before.now))

pub returns-in-Ok-Some-Touches-clause-ok : goal.returns-in-Ok-Some-Touches-clause-ok
returns-in-Ok-Some-Touches-clause-ok c =
    subst (λ (said : Said). OnOk c.touch.result (ReplaysStep c.args.plan.now
    (lies_where c.args.before.now) said c.args.self.now c.touch.new.self))
    (rw (c.in-Ok-Some-Touches.field-0-is, c.in-Ok-Some-Touches.field-0-0-is)
    at c.in-Ok-Some-Touches.ensures) c.touch.ensures.ok

pub returns-in-Ok-Some-Touches-clause-err : goal.returns-in-Ok-Some-Touches-clause-err
returns-in-Ok-Some-Touches-clause-err c =
    subst (λ (said : Said). IfErr c.touch.result (EndsAtStep c.args.plan.now
    (lies_where c.args.before.now) said c.args.self.now))
    (rw (c.in-Ok-Some-Touches.field-0-is, c.in-Ok-Some-Touches.field-0-0-is)
    at c.in-Ok-Some-Touches.ensures) c.touch.ensures.err
