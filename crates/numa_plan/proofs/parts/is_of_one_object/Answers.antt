use Rattle.std.proofs.Common.{◌≡◌, ℕ, ◌-◌, ◌≤◌, ◌^◌, ◌∙◌, true, false, sym, inl, inr, arith}
use Rattle.std.specs.Prelude.{nat_le}
use Rattle.std.proofs.lemmas.Bool.{cases_lt, lt-leb}
use Rattle.numa_machine.specs.Sizes.{is_shared}
use Rattle.numa_plan.proofs.parts.is_of_one_object.Goals as goal

le-of : (a b : ℕ) → nat_le a b ≡ true → a ≤ b
le-of a b is =
    elim (cases_lt b a) [
      | inl low ↦ absurd (let odd : true ≡ false = sym is ∙ lt-leb a b low in cc)
      | inr high ↦ high
    ]

pub returns-then-is_shared : goal.returns-then-is_shared
unfolding is_shared
returns-then-is_shared c within =
    let room = le-of c.args.pages (2 ^ 36 - c.shared_turn.result) within in (
      le-of (2 ^ 37) c.args.index (sym c.if-is_shared.ensures),
      omega (arith, room, c.shared_turn.ensures.turn, c.shared_turn.ensures.few),
    )
