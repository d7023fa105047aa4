use Rattle.std.proofs.Common.{subst}
use Rattle.std.proofs.lemmas.Result.{IfOk-weaker}
use Rattle.numa_space.specs.Standing.{SpaceState}
use Rattle.numa_compile.specs.Follows.{Follows}
use Rattle.numa_compile.specs.Rules.{IsReady}
use Rattle.numa_compile.proofs.FollowLemmas.{follows-plan, follows-sound, follows-stands}
use Rattle.numa_compile.proofs.planned.PlannedSpace.plan_copy.Goals as goal

pub returns-clause-stands : goal.returns-clause-stands
returns-clause-stands c history stands =
    IfOk-weaker c.made_copy.result _ _
    (λ plan follows. follows-stands c.args.self.now plan history
    (subst (λ (s : SpaceState). Follows s plan) c.self.view_is follows) stands)
    c.made_copy.ensures.copy

pub returns-clause-plan : goal.returns-clause-plan
returns-clause-plan c =
    IfOk-weaker c.made_copy.result _ _
    (λ plan follows. follows-plan c.args.self.now plan
    (subst (λ (s : SpaceState). Follows s plan) c.self.view_is follows))
    c.made_copy.ensures.copy

pub returns-clause-follows : goal.returns-clause-follows
returns-clause-follows c =
    IfOk-weaker c.made_copy.result _ _
    (λ plan follows. subst (λ (s : SpaceState). Follows s plan) c.self.view_is follows)
    c.made_copy.ensures.copy

pub returns-clause-sound : goal.returns-clause-sound
returns-clause-sound c =
    let ready = subst (λ (s : SpaceState). IsReady s) c.self.view_is c.survey.ensures.ready in
    IfOk-weaker c.made_copy.result _ _
    (λ plan follows. follows-sound c.args.self.now plan ready
    (subst (λ (s : SpaceState). Follows s plan) c.self.view_is follows))
    c.made_copy.ensures.copy
