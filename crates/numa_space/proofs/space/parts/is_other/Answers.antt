use Rattle.std.proofs.Common.{Bool, false, not, Option, ap, sym, ◌∙◌}
use Rattle.std.specs.Option.{option_map_or}
use Rattle.numa_mode.specs.Policy.{PolicyRecord}
use Rattle.numa_space.specs.Same.{same_record}
use Rattle.numa_space.proofs.SameTest.{range_test-same}
use Rattle.numa_space.proofs.space.parts.is_other.Goals as goal

pub returns-in-Some : goal.returns-in-Some
returns-in-Some c =
    c.ne.ensures
    ∙ ap (λ (same : Option PolicyRecord → Option PolicyRecord → Bool).
    not (same c.args.policy.now c.in-Some.old)) range_test-same
    ∙ ap (λ (o : Option (Option PolicyRecord)).
    option_map_or (λ old. not (same_record c.args.policy.now old)) o false) (sym c.in-Some.is)
