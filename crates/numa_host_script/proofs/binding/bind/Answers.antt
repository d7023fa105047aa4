use Rattle.std.proofs.Common.{Ok, Err, refl, sym, ap, ◌∙◌}
use Rattle.numa_machine.specs.Machine.{Hardware}
use Rattle.numa_run.specs.Obeying.{bound_command}
use Rattle.numa_host_script.proofs.Bindings.{bound-fault, bound-moving, bound-spent, bound-strict}
use Rattle.numa_host_script.proofs.Unmapped.{answered}
use Rattle.numa_host_script.proofs.binding.bind.Goals as goal

pub returns-in-Err : goal.returns-in-Err
returns-in-Err c =
    bound-fault c.args.running.now c.args.process c.args.pages.now c.args.start c.args.length
    c.args.policy.now (Err c.in-Err.fault)
    (c.in-Err.ensures ∙ ap (λ rules. bound_command rules c.args.start c.args.length
    c.args.policy.now) (c.rules-rules.ensures ∙ ap (λ (m : Hardware). m.rules) c.machine.ensures))
    c.in-Err.fault refl

pub returns-then-not-takes_more : goal.returns-then-not-takes_more
returns-then-not-takes_more c =
    bound-spent c.args.running.now c.args.process c.args.pages.now c.args.start c.args.length
    c.args.policy.now (Ok c.in-Ok.command)
    (c.in-Ok.ensures ∙ ap (λ rules. bound_command rules c.args.start c.args.length
    c.args.policy.now) (c.rules-rules.ensures ∙ ap (λ (m : Hardware). m.rules) c.machine.ensures))
    _ c.obey_in.result c.in-Ok.command refl c.takes_more.result c.takes_more.ensures
    c.if-not-takes_more.true
    (answered c.args.running.now c.obey_in.new.host c.args.process c.in-Ok.command
    c.obey_in.result c.obey_in.ensures)

pub returns-in-Strict : goal.returns-in-Strict
returns-in-Strict c =
    bound-strict c.args.running.now c.args.process c.args.pages.now c.args.start c.args.length
    c.args.policy.now (Ok c.in-Ok.command)
    (c.in-Ok.ensures ∙ ap (λ rules. bound_command rules c.args.start c.args.length
    c.args.policy.now) (c.rules-rules.ensures ∙ ap (λ (m : Hardware). m.rules) c.machine.ensures))
    c.bind_strictly.new.running c.bind_strictly.result c.in-Ok.command refl c.takes_more.result
    c.takes_more.ensures c.if-not-takes_more.false c.in-Strict.is c.bind_strictly.ensures

pub returns-in-Move : goal.returns-in-Move
returns-in-Move c =
    bound-moving c.args.running.now c.args.process c.args.pages.now c.args.start c.args.length
    c.args.policy.now (Ok c.in-Ok.command)
    (c.in-Ok.ensures ∙ ap (λ rules. bound_command rules c.args.start c.args.length
    c.args.policy.now) (c.rules-rules.ensures ∙ ap (λ (m : Hardware). m.rules) c.machine.ensures))
    c.bind_moving.new.running c.bind_moving.result c.in-Ok.command refl c.takes_more.result
    c.takes_more.ensures c.in-Move.words c.if-not-takes_more.false c.in-Move.is
    c.bind_moving.ensures
