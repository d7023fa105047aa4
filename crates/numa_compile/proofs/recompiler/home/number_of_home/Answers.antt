use Rattle.std.proofs.Common.{List, Option, ℕ, refl, sym, ap, subst, ◌∙◌, arith}
use Rattle.numa_plan.specs.Meaning.{PlanData}
use Rattle.numa_plan.specs.Slots.{kept_in}
use Rattle.numa_compile.specs.Windows.{WereAdded}
use Rattle.numa_compile.proofs.AddedLemmas.{added-kept}
use Rattle.numa_compile.proofs.GrownLemmas.{grown-more}
use Rattle.numa_compile.proofs.recompiler.home.number_of_home.Goals as goal

pub number_or_add-requires-clause-in_force : goal.number_or_add-requires-clause-in_force
number_or_add-requires-clause-in_force c = λ r is. c.requires.in_force r (sym c.policy.ensures ∙ is)

pub returns-clause-added : goal.returns-clause-added
returns-clause-added c = λ start were.
    subst (λ (numbers : List (Option ℕ)). WereAdded c.args.space.now start numbers
    c.number_or_add.new.plan) (sym c.in-Ok.ensures.items)
    (grown-more c.args.space.now start c.args.plan.now c.number_or_add.new.plan
    c.args.added.now.items c.in_ok-number.new were c.in_ok-number.ensures.added)

pub number_or_add-requires-clause-nodes : goal.number_or_add-requires-clause-nodes
number_or_add-requires-clause-nodes c = c.requires.nodes

pub returns-in_err-number-clause-kept : goal.returns-in_err-number-clause-kept
returns-in_err-number-clause-kept c = λ number kept is.
    ap (λ (p : PlanData). kept_in p.slots number) c.in_err-number.ensures.err ∙ is

pub returns-in_err-number-clause-added : goal.returns-in_err-number-clause-added
returns-in_err-number-clause-added c = λ start were.
    subst (λ (p : PlanData). WereAdded c.args.space.now start c.args.added.now.items p)
    (sym c.in_err-number.ensures.err) were

pub returns-in_default-clause-kept : goal.returns-in_default-clause-kept
returns-in_default-clause-kept c = λ number kept is. ap (λ (p : PlanData). kept_in p.slots number)
    (c.take_back.ensures c.args.space.now c.args.plan.now c.in_ok-number.ensures.added) ∙ is

pub returns-clause-kept : goal.returns-clause-kept
returns-clause-kept c = λ number kept is. added-kept c.args.space.now c.args.plan.now
    c.number_or_add.new.plan c.in_ok-number.new number kept c.in_ok-number.ensures.added is

pub number_before-requires : goal.number_before-requires
number_before-requires c =
    record {
      numbered =
          c.requires.outside (sym c.begins_inside.ensures ∙ c.if-not-begins_inside.true);
    }

pub returns-then-not-begins_inside-clause-number : goal.returns-then-not-begins_inside-clause-number
returns-then-not-begins_inside-clause-number c = c.number_before.ensures

pub returns-then-not-begins_inside-clause-kept : goal.returns-then-not-begins_inside-clause-kept
returns-then-not-begins_inside-clause-kept c = λ number kept is. is

pub returns-then-not-begins_inside-clause-added : goal.returns-then-not-begins_inside-clause-added
returns-then-not-begins_inside-clause-added c = λ start were. were

pub returns-then-not-begins_inside-clause-few : goal.returns-then-not-begins_inside-clause-few
returns-then-not-begins_inside-clause-few c =
    record { compares = omega arith; runs = refl; rules = omega arith; rules_rise = omega arith }

pub number_or_add-requires-clause-ready : goal.number_or_add-requires-clause-ready
number_or_add-requires-clause-ready c = c.requires.ready

pub returns-in_err-number-clause-few : goal.returns-in_err-number-clause-few
returns-in_err-number-clause-few c = rw (sym c.begins_inside.ensures ∙ c.if-not-begins_inside.false)
    c.number_or_add.ensures.few

pub returns-in_default-clause-few : goal.returns-in_default-clause-few
returns-in_default-clause-few c = rw (sym c.begins_inside.ensures ∙ c.if-not-begins_inside.false)
    c.number_or_add.ensures.few

pub returns-clause-few : goal.returns-clause-few
returns-clause-few c = rw (sym c.begins_inside.ensures ∙ c.if-not-begins_inside.false)
    c.number_or_add.ensures.few
