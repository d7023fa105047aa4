use Rattle.std.proofs.Common.{Some, sym, subst}
use Rattle.numaplan_handles.specs.Kinds.{core_of}
use Rattle.numaplan_handles.specs.Steps.{Compiles}
use Rattle.numaplan_handles.specs.declared.kept.Kept.{Kept}
use Rattle.numaplan_reports.proofs.differing.diff_kept.Goals as goal

pub diff_to-moves-requires-clause-old : goal.diff_to-moves-requires-clause-old
diff_to-moves-requires-clause-old c =
    subst (λ (k : Kept). Compiles (core_of (Some k)) c.in-Ok.old) (sym c.compile_kept.ensures.same)
    c.in-Ok.ensures.plan
