use Rattle.std.proofs.Common.{◌∙◌, ap, length, ℕ}
use Rattle.std.specs.Prelude.{nat_le}
use Rattle.numa_space.specs.Limited.{Bounds}
use Rattle.numa_host_script.proofs.Bindings.{more-taken, nobody-more}
use Rattle.numa_host_script.proofs.binding.takes_more.Goals as goal

pub returns-in_default : goal.returns-in_default
returns-in_default c = λ at stands.
    nobody-more at c.args.process (c.in_default.ensures at.history stands.stands)

pub returns : goal.returns
returns c = λ at stands.
    more-taken at c.args.process _ (c.in-Some.ensures at.history stands.stands).0
    (ap (λ (n : ℕ). nat_le n c.version.result) (c.from.ensures ∙ c.max_commands.ensures.limit
    ∙ ap (λ (b : Bounds). b.max_commands) (c.limits.ensures ∙ stands.bounds))
    ∙ ap (λ (n : ℕ). nat_le at.bounds.max_commands n)
    (c.version.ensures.meaning at.history stands.stands))
