use Rattle.std.proofs.Common.{◌≡◌, Option, Some, None, List, length, refl, ap, sym, subst, ◌∙◌}
use Rattle.std.proofs.Common.{arith}
use Rattle.numa_plan.specs.Meaning.{PlanData, planned_list}
use Rattle.std.specs.Option.{option_map}
use Rattle.numa_plan.specs.Building.{with_rule}
use Rattle.numa_plan.specs.Rows.{Kept, RuleData}
use Rattle.numa_plan.specs.Slots.{kept_in, EndsTaken, IsLowestFree}
use Rattle.numa_plan.specs.declared.slots.Slot.{Slot}
use Rattle.numa_plan.specs.declared.slots.Slot.TheVariants.{Taken}
use Rattle.numa_plan.proofs.SlotLemmas.{kept_in-put, kept_in-put_other, length-put, put-sized}
use Rattle.numa_plan.proofs.BuildLemmas.{keeps_with_rule, lists-with_rule}
use Rattle.numa_plan.proofs.plan.Plan.add_rule.Goals as goal

none-kept : (o : Option Kept) → option_map (λ (kept : Kept). kept.rule) o ≡ None → o ≡ None
none-kept None free = refl
none-kept (Some kept) free = absurd (let odd : ◌≡◌ {A = Option RuleData} (Some kept.rule) None =
    free in cc)

pub put_lowest-requires-clause-within : goal.put_lowest-requires-clause-within
put_lowest-requires-clause-within c = c.self.invariant.within

pub put_lowest-requires-clause-taken : goal.put_lowest-requires-clause-taken
put_lowest-requires-clause-taken c = c.self.invariant.taken_below

pub invariant_of-self-2 : goal.invariant_of-self-2
invariant_of-self-2 c =
    rw c.in_ok-number.ensures.put
    (keeps_with_rule c.self.inside.nodes c.self.inside.runs c.self.inside.slots.items
    c.self.inside.lowest_free c.self.inside.tasks c.self.inside.local
    c.in_ok-number.number (record { policy = c.args.policy; rule = c.args.rule })
    c.self.invariant c.in_ok-number.ensures.lowest
    (rw (ap (λ (p : PlanData). p.nodes) c.self.view_is) c.requires.rows))

pub returns-clause-sized : goal.returns-clause-sized
returns-clause-sized c =
    omega (
      arith,
      put-sized c.self.inside.slots.items c.in_ok-number.number
          (Taken 0 (record { policy = c.args.policy; rule = c.args.rule })),
      ap length c.in_ok-number.ensures.put,
      ap (λ (p : PlanData). length p.slots) c.self.view_is,
    )

pub returns-clause-lists : goal.returns-clause-lists
returns-clause-lists c task page cpu =
    let plan : PlanData = record {
      version = c.self.inside.version;
      nodes = c.self.inside.nodes;
      runs = c.self.inside.runs;
      slots = c.self.inside.slots.items;
      tasks =
          c.self.inside.tasks;
      local = c.self.inside.local;
    } in
    ap (λ (slots : List Slot). planned_list (record plan { slots = slots }) task page cpu)
    c.in_ok-number.ensures.put
    ∙ lists-with_rule plan c.self.inside.lowest_free c.in_ok-number.number
    (record { policy = c.args.policy; rule = c.args.rule }) c.self.invariant
    c.in_ok-number.ensures.lowest task page cpu
    ∙ ap (λ (p : PlanData). planned_list p task page cpu) c.self.view_is

pub returns-clause-here : goal.returns-clause-here
returns-clause-here c =
    ap (λ (slots : List Slot). kept_in slots c.in_ok-number.number) c.in_ok-number.ensures.put
    ∙ kept_in-put c.self.inside.slots.items c.in_ok-number.number
    (record { policy = c.args.policy; rule = c.args.rule }) c.in_ok-number.ensures.lowest.within

pub returns-clause-others : goal.returns-clause-others
returns-clause-others c other ne =
    ap (λ (slots : List Slot). kept_in slots other) c.in_ok-number.ensures.put
    ∙ kept_in-put_other c.self.inside.slots.items c.in_ok-number.number other
    (record { policy = c.args.policy; rule = c.args.rule }) c.in_ok-number.ensures.lowest.within ne
    ∙ ap (λ (p : PlanData). kept_in p.slots other) c.self.view_is

pub returns-clause-ok : goal.returns-clause-ok
returns-clause-ok c =
    let plan : PlanData = record {
      version = c.self.inside.version;
      nodes = c.self.inside.nodes;
      runs = c.self.inside.runs;
      slots = c.self.inside.slots.items;
      tasks =
          c.self.inside.tasks;
      local = c.self.inside.local;
    } in (
      subst (λ (slots : List Slot). IsLowestFree slots c.in_ok-number.number)
          (ap (λ (p : PlanData). p.slots) c.self.view_is) c.in_ok-number.ensures.lowest,
      ap (λ (slots : List Slot). record plan { slots = slots }) c.in_ok-number.ensures.put
          ∙ ap
          (λ (p : PlanData). with_rule p c.in_ok-number.number
          (record { policy = c.args.policy; rule = c.args.rule })) c.self.view_is,
      c.rule_written.ensures,
    )

pub returns-clause-ends : goal.returns-clause-ends
returns-clause-ends c =
    let slots : c.self.inside.slots.items ≡ c.args.self.now.slots =
    ap (λ (p : PlanData). p.slots) c.self.view_is in (
      omega (
        arith,
        (length-put c.self.inside.slots.items c.in_ok-number.number
            (Taken 0 (record { policy = c.args.policy; rule = c.args.rule }))
            c.in_ok-number.ensures.lowest.within).1,
        ap length c.in_ok-number.ensures.put,
      ),
      ap (λ (l : List Slot). kept_in l c.in_ok-number.number) (sym slots)
          ∙ none-kept (kept_in c.self.inside.slots.items c.in_ok-number.number)
          c.in_ok-number.ensures.lowest.free,
      subst EndsTaken slots c.self.invariant.ends,
    )
