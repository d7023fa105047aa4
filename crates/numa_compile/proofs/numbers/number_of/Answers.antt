use Rattle.std.proofs.Common.{◌++◌, ◌∷◌, [], List, sym, ap, subst, ◌∙◌, inl, inr}
use Rattle.numa_mode.specs.Policy.{PolicyRecord}
use Rattle.numa_plan.specs.Meaning.{PlanData}
use Rattle.numa_compile.specs.Copies.{Serves}
use Rattle.numa_compile.proofs.CopyLemmas.{live-there}
use Rattle.numa_compile.proofs.ServeLemmas.{serves-rule}
use Rattle.numa_compile.proofs.numbers.number_of.Goals as goal

pub returns-in_ok-add_rule_of-clause-number : goal.returns-in_ok-add_rule_of-clause-number
returns-in_ok-add_rule_of-clause-number c = c.in_ok-number.ensures.stored

pub returns-in_ok-add_rule_of-clause-serves : goal.returns-in_ok-add_rule_of-clause-serves
returns-in_ok-add_rule_of-clause-serves c =
    let keys = c.in_ok-number.ensures.added c.if-is_new.true in
    let was = c.in_ok-add_rule_of.ensures.added in
    let serves =
    (serves-rule c.args.space.now c.args.plan.now c.in_ok-add_rule_of.field-0 was.0.kept
    c.args.records.now.keys c.requires.serves was.0.lowest was.0.serving).1 in
    subst (λ (ks : List PolicyRecord). Serves c.args.space.now c.add_rule_of.new.plan ks)
    (ap (λ (r : PolicyRecord). c.args.records.now.keys ++ r ∷ []) was.1 ∙ sym keys)
    (subst (λ (p : PlanData).
    Serves c.args.space.now p (c.args.records.now.keys ++ was.0.kept.policy ∷ []))
    (sym was.0.grown) serves)

pub returns-in_ok-add_rule_of-clause-rest : goal.returns-in_ok-add_rule_of-clause-rest
returns-in_ok-add_rule_of-clause-rest c =
    let grown = c.in_ok-add_rule_of.ensures.added.0.grown in
    grown ∙ ap (λ slots. record c.args.plan.now { slots = slots })
    (sym (ap (λ (p : PlanData). p.slots) grown))

pub returns-in_ok-add_rule_of-clause-grows : goal.returns-in_ok-add_rule_of-clause-grows
returns-in_ok-add_rule_of-clause-grows c =
    inr (
      c.args.policy,
      live-there c.args.policy c.requires.live,
      c.in_ok-number.ensures.added c.if-is_new.true,
    )

pub returns-else-is_new-clause-number : goal.returns-else-is_new-clause-number
returns-else-is_new-clause-number c = c.in_ok-number.ensures.stored

pub returns-else-is_new-clause-serves : goal.returns-else-is_new-clause-serves
returns-else-is_new-clause-serves c =
    subst (λ (ks : List PolicyRecord). Serves c.args.space.now c.args.plan.now ks)
    (sym (c.in_ok-number.ensures.known c.if-is_new.false)) c.requires.serves

pub returns-else-is_new-clause-grows : goal.returns-else-is_new-clause-grows
returns-else-is_new-clause-grows c = inl (c.in_ok-number.ensures.known c.if-is_new.false)

pub place_of-requires : goal.place_of-requires
place_of-requires c = c.requires.room

pub add_rule_of-requires-clause-ready : goal.add_rule_of-requires-clause-ready
add_rule_of-requires-clause-ready c = c.requires.ready

pub add_rule_of-requires-clause-in_force : goal.add_rule_of-requires-clause-in_force
add_rule_of-requires-clause-in_force c = c.requires.in_force

pub add_rule_of-requires-clause-live : goal.add_rule_of-requires-clause-live
add_rule_of-requires-clause-live c = c.requires.live

pub add_rule_of-requires-clause-nodes : goal.add_rule_of-requires-clause-nodes
add_rule_of-requires-clause-nodes c = c.requires.nodes
