use Rattle.std.proofs.Common.{sym, subst}
use Rattle.numa_compile.specs.Standing.{PlanStandsFor}
use Rattle.numa_space.specs.Standing.{SpaceState, StandsFor}
use Rattle.numaplan_reports.proofs.differing.diff_by.Goals as goal

pub diff_planned-requires : goal.diff_planned-requires
diff_planned-requires c = record {
  old = λ history stands.
      let there : StandsFor c.core_kept-one.result.now.space history =
      subst (λ (s : SpaceState). StandsFor s history) c.space.ensures.space stands in
      subst (λ (s : SpaceState). PlanStandsFor s.machine c.args.old.now history)
      (sym c.space.ensures.space)
      ((c.requires.old c.core_kept-one.result.now c.core_kept-one.ensures.core).1 history there);
  new = λ history stands.
      let there : StandsFor c.core_kept-other.result.now.space history =
      subst (λ (s : SpaceState). StandsFor s history) c.space-2.ensures.space stands in
      subst (λ (s : SpaceState). PlanStandsFor s.machine c.args.new.now history)
      (sym c.space-2.ensures.space)
      ((c.requires.new c.core_kept-other.result.now c.core_kept-other.ensures.core).1 history there);
}
