use Rattle.std.proofs.Common.{◌≡◌, List, ap, sym, subst, ◌∙◌}
use Rattle.std.specs.Prelude.{IsSome}
use Rattle.numa_plan.specs.Meaning.{PlanData, planned_list}
use Rattle.numa_plan.specs.Slots.{kept_in, rule_in, uses_in}
use Rattle.numa_plan.specs.Editing.{without_rule}
use Rattle.numa_plan.specs.declared.slots.Slot.{Slot}
use Rattle.numa_plan.proofs.EditLemmas.{keeps_without, kept_in-freed, kept_in-without}
use Rattle.numa_plan.proofs.EditLemmas.{lists-without, undone}
use Rattle.numa_plan.proofs.plan.Plan.drop_rule.Goals as goal

pub invariant_of-self : goal.invariant_of-self
invariant_of-self c =
    let slots : c.self.inside.slots.items ≡ c.args.self.now.slots =
    ap (λ (p : PlanData). p.slots) c.self.view_is in
    rw (c.free_slot.ensures, c.min-self-inside.ensures)
    (keeps_without c.self.inside.nodes c.self.inside.runs c.self.inside.slots.items
    c.self.inside.lowest_free c.self.inside.tasks c.self.inside.local c.args.number
    c.self.invariant
    (subst (λ (l : List Slot). IsSome (rule_in l c.args.number)) (sym slots) c.requires.there)
    (ap (λ l. uses_in l c.args.number) slots ∙ c.requires.unused))

pub returns-clause-lists : goal.returns-clause-lists
returns-clause-lists c task page cpu =
    let slots : c.self.inside.slots.items ≡ c.args.self.now.slots =
    ap (λ (p : PlanData). p.slots) c.self.view_is in
    let plan : PlanData = record {
      version = c.self.inside.version;
      nodes = c.self.inside.nodes;
      runs = c.self.inside.runs;
      slots = c.self.inside.slots.items;
      tasks =
          c.self.inside.tasks;
      local = c.self.inside.local;
    } in
    ap (λ (slots : List Slot). planned_list (record plan { slots = slots }) task page cpu)
    c.free_slot.ensures
    ∙ lists-without plan c.self.inside.lowest_free c.args.number c.self.invariant
    (ap (λ l. uses_in l c.args.number) slots ∙ c.requires.unused) task page cpu
    ∙ ap (λ (p : PlanData). planned_list p task page cpu) c.self.view_is

pub returns-clause-undone : goal.returns-clause-undone
returns-clause-undone c before kept lowest ends is =
    let plan : PlanData = record {
      version = c.self.inside.version;
      nodes = c.self.inside.nodes;
      runs = c.self.inside.runs;
      slots = c.self.inside.slots.items;
      tasks =
          c.self.inside.tasks;
      local = c.self.inside.local;
    } in
    ap (λ (slots : List Slot). record plan { slots = slots }) c.free_slot.ensures
    ∙ ap (λ (p : PlanData). without_rule p c.args.number) (c.self.view_is ∙ is)
    ∙ ap (λ (slots : List Slot). record before { slots = slots })
    (undone before.slots c.args.number kept lowest ends)

pub returns-clause-gone : goal.returns-clause-gone
returns-clause-gone c =
    ap (λ (l : List Slot). kept_in l c.args.number) c.free_slot.ensures
    ∙ kept_in-freed c.self.inside.slots.items c.args.number
    (subst (λ (l : List Slot). IsSome (rule_in l c.args.number))
    (sym (ap (λ (p : PlanData). p.slots) c.self.view_is)) c.requires.there)

pub returns-clause-others : goal.returns-clause-others
returns-clause-others c k ne =
    ap (λ (l : List Slot). kept_in l k) c.free_slot.ensures
    ∙ kept_in-without c.self.inside.slots.items c.args.number k ne
    ∙ ap (λ (p : PlanData). kept_in p.slots k) c.self.view_is
