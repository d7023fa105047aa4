use Rattle.std.proofs.Common.{Some, sym, subst}
use Rattle.numaplan_handles.specs.Kinds.{core_of}
use Rattle.numaplan_handles.specs.Steps.{Compiles}
use Rattle.numaplan_handles.specs.declared.kept.Kept.{Kept}
use Rattle.numaplan_reports.proofs.differing.diff_to.Goals as goal

pub diff_by-moves-requires-clause-new : goal.diff_by-moves-requires-clause-new
diff_by-moves-requires-clause-new c =
    subst (λ (k : Kept). Compiles (core_of (Some k)) c.in-Ok.new) (sym c.compile_kept.ensures.same)
    c.in-Ok.ensures.plan
