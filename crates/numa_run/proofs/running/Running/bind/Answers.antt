use Rattle.std.proofs.Common.{Ok, Err, ap, refl, ◌∙◌}
use Rattle.numa_machine.specs.Machine.{Hardware}
use Rattle.numa_space.specs.Standing.{SpaceState}
use Rattle.numa_run.specs.Obeying.{bound_command}
use Rattle.numa_run.proofs.Binds.{bound-fault, bound-moving, bound-strict}
use Rattle.numa_run.proofs.running.Running.bind.Goals as goal

pub returns-in-Err : goal.returns-in-Err
returns-in-Err c =
    bound-fault c.args.self.now c.args.pages.now c.args.start c.args.length c.args.policy.now
    (Err c.in-Err.fault)
    (c.in-Err.ensures ∙ ap (λ rules. bound_command rules c.args.start c.args.length
    c.args.policy.now) (c.rules-rules.ensures ∙ ap (λ (m : Hardware). m.rules) c.machine.ensures
    ∙ ap (λ (s : SpaceState). s.machine.rules) c.space.ensures.space))
    c.in-Err.fault refl

pub returns-in-Strict : goal.returns-in-Strict
returns-in-Strict c =
    bound-strict c.args.self.now c.args.pages.now c.args.start c.args.length c.args.policy.now
    (Ok c.in-Ok.command)
    (c.in-Ok.ensures ∙ ap (λ rules. bound_command rules c.args.start c.args.length
    c.args.policy.now) (c.rules-rules.ensures ∙ ap (λ (m : Hardware). m.rules) c.machine.ensures
    ∙ ap (λ (s : SpaceState). s.machine.rules) c.space.ensures.space))
    c.bind_strictly.new.self c.bind_strictly.result c.in-Ok.command refl c.in-Strict.is
    c.bind_strictly.ensures

pub returns-in-Move : goal.returns-in-Move
returns-in-Move c =
    bound-moving c.args.self.now c.args.pages.now c.args.start c.args.length c.args.policy.now
    (Ok c.in-Ok.command)
    (c.in-Ok.ensures ∙ ap (λ rules. bound_command rules c.args.start c.args.length
    c.args.policy.now) (c.rules-rules.ensures ∙ ap (λ (m : Hardware). m.rules) c.machine.ensures
    ∙ ap (λ (s : SpaceState). s.machine.rules) c.space.ensures.space))
    c.bind_moving.new.self c.bind_moving.result c.in-Ok.command c.in-Move.words refl
    c.in-Move.is c.bind_moving.ensures
