use Rattle.std.proofs.Common.{Some, sym, subst}
use Rattle.numaplan_handles.specs.Kinds.{core_of}
use Rattle.numaplan_handles.specs.Steps.{Compiles}
use Rattle.numaplan_handles.specs.declared.kept.Kept.{Kept}
use Rattle.numaplan_reports.proofs.replaying.replay_kept.Goals as goal

pub replay_by-answer-requires-clause-plan : goal.replay_by-answer-requires-clause-plan
replay_by-answer-requires-clause-plan c =
    subst (λ (k : Kept). Compiles (core_of (Some k)) c.in-Ok.plan) (sym c.compile_kept.ensures.same)
    c.in-Ok.ensures.plan
