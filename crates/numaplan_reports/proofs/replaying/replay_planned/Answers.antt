use Rattle.std.proofs.Common.{Global, Vec, inr, reverse, subst}
use Rattle.numa_machine.specs.Machine.{Hardware}
use Rattle.numa_traces.specs.Replaying.{IsReplay}
use Rattle.numa_traces.specs.Whole.{EndsTrace}
use Rattle.numa_traces.specs.declared.routes.RouteCounts.{RouteCounts}
use Rattle.numaplan_reports.proofs.Routed.{routed}
use Rattle.numaplan_reports.proofs.replaying.replay_planned.Goals as goal

pub returns-in-Err : goal.returns-in-Err
returns-in-Err c = inr (
  c.args.plan.now,
  c.requires.plan,
  subst (λ (m : Hardware). EndsTrace m c.args.plan.now c.args.trace.now c.in-Err.ended.0
      c.in-Err.ended.1) c.machine.ensures c.in-Err.ensures.err,
)

pub returns : goal.returns
returns c = routed (λ (routes : Vec RouteCounts Global). routes.items) c.args.space.now
    c.args.trace.now c.args.plan.now c.in-Ok.replay c.told_routes-routes.result c.requires.plan
    (subst (λ (m : Hardware). IsReplay m c.args.plan.now (reverse c.args.trace.now) c.in-Ok.replay)
    c.machine.ensures c.in-Ok.ensures.ok) c.told_routes-routes.ensures
