use Rattle.std.proofs.Common.{Bool, false, not, Option, ap, sym, ◌∙◌}
use Rattle.std.specs.Option.{option_map_or}
use Rattle.numa_mode.specs.Policy.{PolicyRecord}
use Rattle.numa_space.specs.Policies.{policy_with_home}
use Rattle.numa_space.specs.Refusals.{keeps_home}
use Rattle.numa_space.specs.contracts.range_record.RangeRecordPartialEq.TheImpl as range_test
use Rattle.numa_space.proofs.SameTest.{range_test-same}
use Rattle.numa_space.proofs.space.parts.moves_home.Goals as goal

pub returns-in-Some : goal.returns-in-Some
returns-in-Some c =
    c.ne.ensures
    ∙ ap (λ (home : Option PolicyRecord). not (range_test.ghosts.eq c.in-Some.old home))
    c.homed.ensures
    ∙ ap (λ (same : Option PolicyRecord → Option PolicyRecord → Bool).
    not (same c.in-Some.old (policy_with_home c.args.node c.in-Some.old))) range_test-same
    ∙ ap (λ (o : Option (Option PolicyRecord)).
    option_map_or (λ old. not (keeps_home c.args.node old)) o false) (sym c.in-Some.is)
