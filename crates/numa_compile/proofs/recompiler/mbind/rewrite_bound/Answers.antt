use Rattle.std.proofs.Common.{ap, ◌∙◌, arith}
use Rattle.numa_plan.specs.Meaning.{PlanData}
use Rattle.numa_compile.proofs.AddedLemmas.{added-rest}
use Rattle.numa_compile.proofs.CommandLemmas.{bound-inside}
use Rattle.numa_compile.proofs.GrownLemmas.{open-added}
use Rattle.numa_compile.proofs.HomeLemmas.{open-nodes}
use Rattle.numa_compile.proofs.SpanLemmas.{writes-few}
use Rattle.numa_compile.proofs.recompiler.mbind.rewrite_bound.Goals as goal

pub number_or_add-requires-clause-nodes : goal.number_or_add-requires-clause-nodes
number_or_add-requires-clause-nodes c = open-nodes c.args.space.now c.args.plan.now
    c.args.window.now c.requires.of

pub rewrite_window-requires-clause-of : goal.rewrite_window-requires-clause-of
rewrite_window-requires-clause-of c = open-added c.args.space.now c.args.plan.now
    c.number_or_add.new.plan c.args.window.now c.in_ok-number.added c.requires.of
    c.in_ok-number.ensures.added

pub rewrite_window-requires-clause-inside : goal.rewrite_window-requires-clause-inside
rewrite_window-requires-clause-inside c =
    bound-inside c.args.space.now c.number_or_add.new.plan c.args.window.now
    c.policy_begun-policy.result c.in_ok-number.number c.policy_begun-policy.ensures.inside
    c.in_ok-number.ensures.number

pub returns-in_default-clause-few : goal.returns-in_default-clause-few
returns-in_default-clause-few c =
    writes-few c.args.steps.now c.number_or_add.new.steps c.rewrite_window.new.steps 1 _ _
    c.number_or_add.ensures.few c.rewrite_window.ensures.few (omega arith)

pub returns-clause-few : goal.returns-clause-few
returns-clause-few c =
    writes-few c.args.steps.now c.number_or_add.new.steps c.rewrite_window.new.steps 1 _ _
    c.number_or_add.ensures.few c.rewrite_window.ensures.few (omega arith)

pub number_or_add-requires-clause-ready : goal.number_or_add-requires-clause-ready
number_or_add-requires-clause-ready c = c.requires.ready

pub number_or_add-requires-clause-in_force : goal.number_or_add-requires-clause-in_force
number_or_add-requires-clause-in_force c = c.policy_begun-policy.ensures.in_force

pub returns-clause-follows : goal.returns-clause-follows
returns-clause-follows c = c.in-Ok.ensures.follows

pub returns-clause-tasks : goal.returns-clause-tasks
returns-clause-tasks c = c.rewrite_window.ensures.tasks
    ∙ ap (λ (p : PlanData). p.tasks)
    (added-rest c.args.space.now c.args.plan.now c.number_or_add.new.plan c.in_ok-number.added
    c.in_ok-number.ensures.added)
