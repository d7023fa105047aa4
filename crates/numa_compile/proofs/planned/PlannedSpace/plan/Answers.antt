use Rattle.std.proofs.Common.{subst}
use Rattle.numa_space.specs.Standing.{SpaceState}
use Rattle.numa_compile.specs.Follows.{Follows}
use Rattle.numa_compile.specs.Rules.{IsReady}
use Rattle.numa_compile.proofs.FollowLemmas.{follows-plan, follows-sound, follows-stands}
use Rattle.numa_compile.proofs.planned.PlannedSpace.plan.Goals as goal

pub returns-in-Some-clause-stands : goal.returns-in-Some-clause-stands
returns-in-Some-clause-stands c history stands =
    follows-stands c.args.self.now c.in-Some.plan history
    (subst (λ (s : SpaceState). Follows s c.in-Some.plan) c.self.view_is
    (c.self.invariant _ c.in-Some.is)) stands

pub returns-in-Some-clause-plan : goal.returns-in-Some-clause-plan
returns-in-Some-clause-plan c =
    follows-plan c.args.self.now c.in-Some.plan
    (subst (λ (s : SpaceState). Follows s c.in-Some.plan) c.self.view_is
    (c.self.invariant _ c.in-Some.is))

pub returns-in-Some-clause-follows : goal.returns-in-Some-clause-follows
returns-in-Some-clause-follows c = subst (λ (s : SpaceState). Follows s c.in-Some.plan)
    c.self.view_is (c.self.invariant _ c.in-Some.is)

pub returns-in-Some-clause-sound : goal.returns-in-Some-clause-sound
returns-in-Some-clause-sound c =
    let ready = subst (λ (s : SpaceState). IsReady s) c.self.view_is c.survey.ensures.ready in
    follows-sound c.args.self.now c.in-Some.plan ready
    (subst (λ (s : SpaceState). Follows s c.in-Some.plan) c.self.view_is
    (c.self.invariant _ c.in-Some.is))
