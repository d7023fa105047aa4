use Rattle.std.proofs.Common.{◌≡◌, ℕ, Option, List, [], ◌∷◌, length, length-append, sym, ap, subst}
use Rattle.std.proofs.Common.{◌∙◌, arith}
use Rattle.numa_mode.specs.Policy.{PolicyRecord}
use Rattle.numa_plan.specs.Rows.{Kept}
use Rattle.numa_plan.specs.Slots.{policy_in}
use Rattle.numa_compile.specs.Recompiling.{IsRenewed, AreRenewed}
use Rattle.numa_compile.proofs.WeightSteps.{renewed-push}
use Rattle.numa_compile.proofs.recompiler.weight.all_renewed.Goals as goal

pub renewed-requires-clause-standing : goal.renewed-requires-clause-standing
renewed-requires-clause-standing c = λ r is. c.requires.standing c.in-Ok.number r
    (sym c.policy_of.ensures ∙ is)

pub loop-place-preserved : goal.loop-place-preserved
loop-place-preserved c =
    let at = c.loop-place.invariant in
    let here : c.in-Ok.number ≡ c.loop-place.place = c.in-Ok.ensures.1 in
    let one = subst (λ (p : Option PolicyRecord). IsRenewed c.args.space.now p c.in_ok-rule.rule)
    c.policy_of.ensures c.in_ok-rule.ensures in
    record {
      all =
          omega (
            arith,
            at.all,
            ap length c.in_ok-push.ensures.items,
            length-append c.loop-place.rules.items (c.in_ok-rule.rule ∷ []),
          );
      few = omega (arith, c.in-Ok.ensures.0);
      renewed =
          subst (λ (rules : List (Option Kept)). AreRenewed c.args.space.now c.args.plan.now.slots
          rules) (sym c.in_ok-push.ensures.items)
          (renewed-push c.args.space.now c.args.plan.now.slots c.loop-place.rules.items
          c.in_ok-rule.rule at.renewed
          (subst (λ (n : ℕ). IsRenewed c.args.space.now (policy_in c.args.plan.now.slots n)
          c.in_ok-rule.rule) (here ∙ sym at.all) one));
    }

pub renewed-requires-clause-ready : goal.renewed-requires-clause-ready
renewed-requires-clause-ready c = c.requires.ready

pub returns-clause-renewed : goal.returns-clause-renewed
returns-clause-renewed c = c.loop-place.invariant.renewed
