use Rattle.std.proofs.Common.{sym, subst}
use Rattle.numa_compile.specs.Standing.{PlanStandsFor}
use Rattle.numa_space.specs.Standing.{SpaceState, StandsFor}
use Rattle.numaplan_reports.proofs.replaying.replay_by.Goals as goal

pub replay_planned-requires : goal.replay_planned-requires
replay_planned-requires c = record {
  plan = λ history stands.
      let there : StandsFor c.core_kept.result.now.space history =
      subst (λ (s : SpaceState). StandsFor s history) c.space.ensures.space stands in
      subst (λ (s : SpaceState). PlanStandsFor s.machine c.args.plan.now history)
      (sym c.space.ensures.space)
      ((c.requires.plan c.core_kept.result.now c.core_kept.ensures.core).1 history there);
}
