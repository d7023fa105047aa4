use Rattle.std.proofs.Common.{List, ap, sym, ◌∙◌}
use Rattle.numa_plan.specs.Meaning.{PlanData}
use Rattle.numa_plan.specs.Slots.{uses_in}
use Rattle.numa_plan.specs.Sound.{uses_of}
use Rattle.numa_plan.specs.declared.slots.Slot.{Slot}
use Rattle.numa_plan.proofs.UseLemmas.{unnamed-unused}
use Rattle.numa_plan.proofs.plan.Plan.uses.Goals as goal

pub returns-clause-named : goal.returns-clause-named
returns-clause-named c =
    unnamed-unused c.args.self.now c.self.inside.tasks c.args.number c.uses_at.result
    (sym (ap (λ (p : PlanData). p.tasks) c.self.view_is)) c.len.ensures.sorted
    (c.uses_at.ensures
    ∙ ap (λ (l : List Slot). uses_in l c.args.number) c.deref.ensures.value
    ∙ c.self.invariant.counted c.args.number
    ∙ ap (λ (p : PlanData). uses_of p.runs p.tasks c.args.number) c.self.view_is)
