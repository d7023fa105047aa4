use Rattle.std.proofs.Common.{◌≡◌, ◌++◌, sym, ap, subst, ◌∙◌}
use Rattle.numa_core.specs.Kept.{core_state}
use Rattle.numa_core.specs.World.{World}
use Rattle.numa_core.specs.Executions.{IsExecution, world_of}
use Rattle.numa_core.specs.Standing.{CoreStandsFor, HasPast, setup_of}
use Rattle.numa_core.specs.Touching.{Answered, IsTouch, result_of_touch, touch_answer, touch_world}
use Rattle.numa_core.proofs.TouchLaw.{touch_law}
use Rattle.numa_core.proofs.TouchExecutions.{touches}
use Rattle.numa_core.proofs.Core.touch.Goals as goal

ends : (c : goal.After-touch) (world : World) → CoreStandsFor c.args.self.now world
    → (c.touch.result
    ≡ (result_of_touch (setup_of c.args.self.now) world c.args.worker c.args.request).answer)
    × CoreStandsFor (core_state c.touch.new.self)
    (result_of_touch (setup_of c.args.self.now) world c.args.worker c.args.request).world
ends c world stands =
    let view : core_state c.self.inside.state ≡ c.args.self.now = c.self.view_is in
    let told =
    c.touch.ensures.touches world
    (subst (λ core. CoreStandsFor core world) (sym view) stands) in
    let law = touch_law (setup_of c.args.self.now) world c.args.worker c.args.request in (
      told.0 ∙ ap (λ core. touch_answer (setup_of core) world c.args.worker c.args.request) view
          ∙ sym (ap (λ (a : Answered). a.answer) law),
      subst (λ w. CoreStandsFor (core_state c.touch.new.self) w)
          (ap (λ core. touch_world (setup_of core) world c.args.worker c.args.request) view
          ∙ sym (ap (λ (a : Answered). a.world) law)) told.1,
    )

pub returns-clause-answer : goal.returns-clause-answer
returns-clause-answer c world stands = ends c world stands

pub invariant_of-self : goal.invariant_of-self
invariant_of-self c =
    let had = subst HasPast c.self.view_is c.self.invariant.1 in
    let old = setup_of c.args.self.now in
    let new = core_state c.touch.new.self in
    let last = ends c (world_of old had.past) had.leads.stands in
    let steps = touches old had.past c.args.worker c.args.request had.leads.legal in
    let same = c.touch.ensures.setup ∙ ap setup_of c.self.view_is in (
      c.touch.ensures.kept,
      record {
        past = steps.core_steps ++ had.past;
        leads = record {
          legal = subst (λ s. IsExecution s (steps.core_steps ++ had.past)) (sym same) steps.legal;
          stands = subst (λ s. CoreStandsFor new (world_of s (steps.core_steps ++ had.past)))
              (sym same) (subst (λ w. CoreStandsFor new w) (sym steps.world) last.1);
        };
      },
    )

pub returns-clause-executions : goal.returns-clause-executions
returns-clause-executions c past leads =
    let old = setup_of c.args.self.now in
    let new = core_state c.touch.new.self in
    let last = ends c (world_of old past) leads.stands in
    let steps = touches old past c.args.worker c.args.request leads.legal in
    let same = c.touch.ensures.setup ∙ ap setup_of c.self.view_is in (
      steps.core_steps,
      subst (λ answer. IsTouch c.args.worker c.args.request answer steps.core_steps) (sym last.0)
          steps.touch,
      record {
        legal = subst (λ s. IsExecution s (steps.core_steps ++ past)) (sym same) steps.legal;
        stands = subst (λ s. CoreStandsFor new (world_of s (steps.core_steps ++ past))) (sym same)
            (subst (λ w. CoreStandsFor new w) (sym steps.world) last.1);
      },
    )
