use Rattle.std.proofs.Common.{ℕ, ◌<◌, Some, refl, subst}
use Rattle.numa_plan.specs.Rows.{Kept}
use Rattle.numa_plan.specs.Slots.{kept_in}
use Rattle.numa_compile.proofs.ServeLemmas.{policy-of}
use Rattle.numa_compile.proofs.numbers.add_rule_of.Goals as goal

pub returns-clause-added : goal.returns-clause-added
returns-clause-added c =
    let kept : Kept = record { policy = c.args.policy; rule = c.in_ok-rule.rule } in (
      record {
        lowest = c.in_ok-number.ensures.ok.0;
        ends = c.in_ok-number.ensures.ends.2;
        kept = kept;
        serving = record {
          live = c.requires.live;
          in_force = c.requires.in_force;
          gives =
              λ cpu index lt. (c.in_ok-rule.ensures cpu index lt).1;
        };
        grown = c.in_ok-number.ensures.ok.1;
      },
      refl,
    )

pub add_rule-requires : goal.add_rule-requires
add_rule-requires c =
    record {
      rows = λ cpu index lt.
          (c.in_ok-rule.ensures cpu index (subst (λ (n : ℕ). cpu < n) c.requires.nodes lt)).0;
    }

pub returns-clause-here : goal.returns-clause-here
returns-clause-here c = policy-of (kept_in c.add_rule.new.self.slots c.in_ok-number.number)
    (Some (record { policy = c.args.policy; rule = c.in_ok-rule.rule })) c.in_ok-number.ensures.here
