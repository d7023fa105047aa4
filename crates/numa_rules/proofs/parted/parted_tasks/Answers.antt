use Rattle.std.proofs.Common.{sym, ◌∙◌}
use Rattle.numa_rules.proofs.Tasks.{task-agrees, task-parts}
use Rattle.numa_rules.proofs.parted.parted_tasks.Goals as goal

pub returns-then-is_some : goal.returns-then-is_some
returns-then-is_some c =
    task-parts c.args.before.now c.args.after.now c.args.space.now.tasks c.loop-place.place
    c.in-Some.held.0 c.in-Some.held.1 c.parted_policy-found.result
    (sym c.in-Some.ensures.task) c.parted_policy-found.ensures
    (sym c.is_some.ensures ∙ c.if-is_some.true)
    ∙ c.loop-place.invariant

pub loop-place-preserved : goal.loop-place-preserved
loop-place-preserved c =
    task-agrees c.args.before.now c.args.after.now c.args.space.now.tasks c.loop-place.place
    c.in-Some.held.0 c.in-Some.held.1 c.parted_policy-found.result
    (sym c.in-Some.ensures.task) c.parted_policy-found.ensures
    (sym c.is_some.ensures ∙ c.if-is_some.false)
    ∙ c.loop-place.invariant
