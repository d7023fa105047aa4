use Rattle.std.proofs.Common.{Some, sym, subst, ◌∙◌}
use Rattle.numa_plan.specs.Rows.{Kept}
use Rattle.numa_compile.specs.Recompiling.{IsRenewed}
use Rattle.numa_compile.proofs.recompiler.weight.renewed.Goals as goal

pub rule_of-requires-clause-ready : goal.rule_of-requires-clause-ready
rule_of-requires-clause-ready c = c.requires.ready

pub rule_of-requires-clause-in_force : goal.rule_of-requires-clause-in_force
rule_of-requires-clause-in_force c = (c.requires.standing c.in-Some.policy c.in-Some.is).1

pub rule_of-requires-clause-live : goal.rule_of-requires-clause-live
rule_of-requires-clause-live c = (c.requires.standing c.in-Some.policy c.in-Some.is).0

pub returns : goal.returns
returns c =
    let standing = c.requires.standing c.in-Some.policy c.in-Some.is in
    subst (λ (kept : Kept). IsRenewed c.args.space.now c.args.policy (Some kept))
    (sym c.in_ok-shared.ensures) (
      c.in-Some.is,
      sym c.depends_on_weights.ensures ∙ c.if-not-depends_on_weights.false,
      record {
        live = standing.0;
        in_force = standing.1;
        gives = λ cpu index lt.
            (c.in_ok-rule.ensures cpu index lt).1;
      },
      λ cpu index lt. (c.in_ok-rule.ensures cpu index lt).0,
    )
