use Rattle.std.proofs.Common.{ℕ, Option, List, ◌++◌, sym, subst}
use Rattle.std.specs.Prelude.{All, IsSome}
use Rattle.std.specs.Option.{ForSome}
use Rattle.numa_ranges.specs.Runs.{AreApart}
use Rattle.numa_ranges.specs.declared.run.Run.{Run}
use Rattle.numa_plan.specs.Slots.{rule_in}
use Rattle.numa_compile.proofs.compiler.add_run.Goals as goal

pub put_waiting-requires-clause-apart : goal.put_waiting-requires-clause-apart
put_waiting-requires-clause-apart c =
    subst (λ (waiting : List (Run (Option ℕ))). AreApart 0 (c.args.plan.now.runs ++ waiting))
    (sym c.in_ok-push.ensures.items) c.requires.apart

pub put_waiting-requires-clause-named : goal.put_waiting-requires-clause-named
put_waiting-requires-clause-named c =
    subst (λ (waiting : List (Run (Option ℕ))).
    All (λ run. ForSome run.value (λ number. IsSome (rule_in c.args.plan.now.slots number)))
    (c.args.plan.now.runs ++ waiting)) (sym c.in_ok-push.ensures.items) c.requires.named

pub returns-clause-more : goal.returns-clause-more
returns-clause-more c = c.put_waiting.ensures.more
