use Rattle.std.proofs.Common.{Result, Ok, Err, OnOk, Some, length, ap, ◌∙◌}
use Rattle.numa_plan.specs.Meaning.{PlanData, number_of}
use Rattle.numa_plan.specs.Slots.{kept_in}
use Rattle.numa_plan.proofs.SlotLemmas.{length-changed, kept_in-changed}
use Rattle.numa_plan.proofs.plan.Plan.set_task.Goals as goal

on_ok-weaker : {T E P Q : Type 0} (r : Result T E) → (P → Q) → OnOk r P → OnOk r Q
on_ok-weaker (Ok x) f h = f h
on_ok-weaker (Err e) f h = tt

pub returns-in-Some-clause-slots : goal.returns-in-Some-clause-slots
returns-in-Some-clause-slots c =
    on_ok-weaker c.give_rule.result
    (λ given. ap (λ (p : PlanData). length p.slots) given ∙ length-changed c.args.self.now.slots
    (Some c.in-Some.number) (number_of c.args.self.now.tasks c.args.task))
    c.give_rule.ensures.ok

pub returns-in-Some-clause-kept : goal.returns-in-Some-clause-kept
returns-in-Some-clause-kept c =
    on_ok-weaker c.give_rule.result
    (λ given k. ap (λ (p : PlanData). kept_in p.slots k) given
    ∙ kept_in-changed c.args.self.now.slots (Some c.in-Some.number)
    (number_of c.args.self.now.tasks c.args.task) k)
    c.give_rule.ensures.ok
