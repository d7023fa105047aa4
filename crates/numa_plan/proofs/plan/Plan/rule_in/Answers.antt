use Rattle.std.proofs.Common.{arith, ap, ◌∙◌}
use Rattle.numa_plan.specs.Slots.{rule_of_slot}
use Rattle.numa_plan.specs.Meaning.{PlanData}
use Rattle.numa_plan.proofs.SlotLemmas.{slot_at-index}
use Rattle.numa_plan.proofs.plan.Plan.rule_in.Goals as goal

pub returns-in-Taken-clause-rows : goal.returns-in-Taken-clause-rows
returns-in-Taken-clause-rows c =
    rw (c.rule.ensures, ← ap (λ (p : PlanData). p.nodes) c.self.view_is)
    (c.self.invariant.rows c.args.number c.in-Taken.kept.rule
    (ap rule_of_slot (slot_at-index c.self.inside.slots.items c.args.number c.index.result.now
    (omega arith) c.index.ensures ∙ c.in-Taken.is)))
