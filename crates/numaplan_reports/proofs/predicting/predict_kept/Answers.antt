use Rattle.std.proofs.Common.{Some, sym, subst}
use Rattle.numaplan_handles.specs.Kinds.{core_of}
use Rattle.numaplan_handles.specs.Steps.{Compiles}
use Rattle.numaplan_handles.specs.declared.kept.Kept.{Kept}
use Rattle.numaplan_reports.proofs.predicting.predict_kept.Goals as goal

pub predict_planned-answer-requires-clause-plan : goal.predict_planned-answer-requires-clause-plan
predict_planned-answer-requires-clause-plan c =
    subst (λ (k : Kept). Compiles (core_of (Some k)) c.in-Ok.plan) (sym c.compile_kept.ensures.same)
    c.in-Ok.ensures.plan
