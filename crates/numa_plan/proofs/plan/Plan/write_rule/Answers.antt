use Rattle.std.proofs.Common.{◌≡◌, List, Some, length, ap, ◌∙◌}
use Rattle.std.proofs.Math.ListN.{length-set}
use Rattle.numa_plan.specs.Editing.{with_other}
use Rattle.numa_plan.specs.Meaning.{PlanData}
use Rattle.numa_plan.specs.Slots.{kept_in, policy_in, slot_at}
use Rattle.numa_plan.specs.declared.slots.Slot.{Slot}
use Rattle.numa_plan.proofs.EditLemmas.{keeps_written, kept_in-written, kept_in-unwritten}
use Rattle.numa_plan.proofs.SlotLemmas.{rule-there}
use Rattle.numa_plan.proofs.plan.Plan.write_rule.Goals as goal

pub write_other-requires : goal.write_other-requires
write_other-requires c =
    let there : policy_in c.self.inside.slots.items c.args.number ≡ Some c.args.shared.policy =
    ap (λ (p : PlanData). policy_in p.slots c.args.number) c.self.view_is ∙ c.requires.there in
    rule-there c.self.inside.slots.items c.args.number c.args.shared.policy there

pub invariant_of-self : goal.invariant_of-self
invariant_of-self c =
    let there : policy_in c.self.inside.slots.items c.args.number ≡ Some c.args.shared.policy =
    ap (λ (p : PlanData). policy_in p.slots c.args.number) c.self.view_is ∙ c.requires.there in
    rw c.write_other.ensures
    (keeps_written c.self.inside.nodes c.self.inside.runs c.self.inside.slots.items
    c.self.inside.lowest_free c.self.inside.tasks c.self.inside.local c.args.number
    c.args.shared c.self.invariant
    (rule-there c.self.inside.slots.items c.args.number c.args.shared.policy there)
    (rw (ap (λ (p : PlanData). p.nodes) c.self.view_is) c.requires.rows))

pub returns-clause-here : goal.returns-clause-here
returns-clause-here c =
    let there : policy_in c.self.inside.slots.items c.args.number ≡ Some c.args.shared.policy =
    ap (λ (p : PlanData). policy_in p.slots c.args.number) c.self.view_is ∙ c.requires.there in
    ap (λ (l : List Slot). kept_in l c.args.number) c.write_other.ensures
    ∙ kept_in-written c.self.inside.slots.items c.args.number c.args.shared
    (rule-there c.self.inside.slots.items c.args.number c.args.shared.policy there)

pub returns-clause-others : goal.returns-clause-others
returns-clause-others c k ne =
    ap (λ (l : List Slot). kept_in l k) c.write_other.ensures
    ∙ kept_in-unwritten c.self.inside.slots.items c.args.number k c.args.shared ne
    ∙ ap (λ (p : PlanData). kept_in p.slots k) c.self.view_is

pub returns-clause-slots : goal.returns-clause-slots
returns-clause-slots c =
    ap (λ (l : List Slot). length l) c.write_other.ensures
    ∙ length-set c.self.inside.slots.items c.args.number
    (with_other (slot_at c.self.inside.slots.items c.args.number) c.args.shared)
    ∙ ap (λ (p : PlanData). length p.slots) c.self.view_is
