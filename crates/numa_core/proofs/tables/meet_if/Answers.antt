use Rattle.std.proofs.Common.{◌≡◌, ◌==◌, ◌&&◌, ◌||◌, Bool, Some, true, false, ap, ◌∙◌, sym, refl}
use Rattle.numa_core.specs.Standing.{is_met}
use Rattle.numa_core.proofs.tables.meet_if.Goals as goal

and_true : (a b : Bool) → b ≡ true → a ≡ (a && b)
and_true true b e = sym e
and_true false b e = refl

pub returns-then-owned-clause-met : goal.returns-then-owned-clause-met
returns-then-owned-clause-met c p = c.meet.ensures.met p
    ∙ ap (λ b. b || is_met c.args.met.now.items (Some p))
    (and_true (p == c.args.place) c.args.owned c.if-owned.true)
