use Rattle.std.proofs.Common.{◌≡◌, ℕ, Some, List, arith, ap, sym, subst, ◌∙◌}
use Rattle.std.specs.Prelude.{IsSome}
use Rattle.numa_plan.specs.Building.{set_number, with_task}
use Rattle.numa_plan.specs.Meaning.{PlanData, number_of}
use Rattle.numa_plan.specs.Slots.{rule_in, with_use, with_use_less}
use Rattle.numa_plan.specs.declared.slots.Slot.{Slot}
use Rattle.numa_plan.proofs.SlotLemmas.{uses_in-used}
use Rattle.numa_plan.proofs.BuildLemmas.{keeps_given, task-uses}
use Rattle.numa_plan.proofs.plan.Plan.give_rule.Goals as goal

pub leave_named-requires : goal.leave_named-requires
leave_named-requires c =
    let named : IsSome (rule_in c.self.inside.slots.items c.args.number) =
    subst (λ (slots : List Slot). IsSome (rule_in slots c.args.number))
    (sym (ap (λ (p : PlanData). p.slots) c.self.view_is)) c.requires.named in
    λ had is.
    rw c.use_rule.ensures
    (omega (
      arith,
      uses_in-used c.self.inside.slots.items c.args.number had named,
      c.self.invariant.counted had,
      task-uses c.self.inside.runs c.self.inside.tasks
          c.args.task had (sym is ∙ c.in_ok-had.ensures.old),
    ))

pub invariant_of-self-2 : goal.invariant_of-self-2
invariant_of-self-2 c =
    let named : IsSome (rule_in c.self.inside.slots.items c.args.number) =
    subst (λ (slots : List Slot). IsSome (rule_in slots c.args.number))
    (sym (ap (λ (p : PlanData). p.slots) c.self.view_is)) c.requires.named in
    rw (c.leave_named.ensures, c.use_rule.ensures, c.in_ok-had.ensures.entries)
    (keeps_given c.self.inside.nodes c.self.inside.runs c.self.inside.slots.items
    c.self.inside.lowest_free c.self.inside.tasks c.self.inside.local c.args.task
    c.args.number c.in_ok-had.had c.self.invariant c.insert.ensures.was_sorted
    c.in_ok-had.ensures.old named)

pub use_rule-requires-clause-there : goal.use_rule-requires-clause-there
use_rule-requires-clause-there c =
    subst (λ (slots : List Slot). IsSome (rule_in slots c.args.number))
    (sym (ap (λ (p : PlanData). p.slots) c.self.view_is)) c.requires.named

pub returns-clause-ok : goal.returns-clause-ok
returns-clause-ok c =
    let plan : PlanData = record {
      version = c.self.inside.version;
      nodes = c.self.inside.nodes;
      runs = c.self.inside.runs;
      slots = c.self.inside.slots.items;
      tasks =
          c.self.inside.tasks;
      local = c.self.inside.local;
    } in
    let slots : c.leave_named.new.slots.items
    ≡ with_use_less (with_use plan.slots (Some c.args.number))
    (number_of plan.tasks c.args.task) =
    c.leave_named.ensures ∙ ap (λ (l : List Slot). with_use_less l c.in_ok-had.had)
    c.use_rule.ensures ∙ ap (with_use_less (with_use plan.slots (Some c.args.number)))
    c.in_ok-had.ensures.old in
    ap (λ (tasks : List (ℕ × ℕ)).
    record plan { tasks = tasks; slots = c.leave_named.new.slots.items })
    c.in_ok-had.ensures.entries
    ∙ ap
    (λ (l : List Slot).
    record plan { tasks = set_number plan.tasks c.args.task (Some c.args.number); slots = l }) slots
    ∙ ap (λ (p : PlanData). with_task p c.args.task (Some c.args.number)) c.self.view_is
