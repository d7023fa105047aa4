use Rattle.std.proofs.Common.{◌≡◌, ◌+◌, ◌-◌, ◌%◌, ◌∙◌, ℕ, ap, arith, inl, inr, sym}
use Rattle.std.proofs.Math.Nat.{mod-lt}
use Rattle.std.proofs.lemmas.Bool.{cases_lt}
use Rattle.numa_placed.specs.Binds.{wants_of}
use Rattle.numa_placed.specs.Turns.{turn_node}
use Rattle.numa_placed.specs.declared.spot.Spot.TheVariants.{Stated}
use Rattle.numa_placed.proofs.Wrapped.{wraps}
use Rattle.numa_placed.proofs.wants.Wants.first_in_turn.Goals as goal

pub loop-passed-preserved : goal.loop-passed-preserved
loop-passed-preserved c p any low high =
    elim (cases_lt p (c.args.page + c.loop-passed.passed)) [
      | inl l ↦ c.loop-passed.invariant p any low l
      | inr g ↦
          let is : p ≡ c.args.page + c.loop-passed.passed = omega (arith, g, high) in
          ap (λ (q : ℕ). wants_of c.args.self.now any
          (Stated (turn_node c.args.nodes.now c.args.turn q))) is
          ∙ ap (λ (n : ℕ). wants_of c.args.self.now any (Stated n)) (sym c.turn_node-node.ensures)
          ∙ c.may_take.ensures c.if-may_take.false any
    ]

pub returns-then-not-may_take_placed-clause-stay : goal.returns-then-not-may_take_placed-clause-stay
returns-then-not-may_take_placed-clause-stay c p low high =
    c.may_take_placed.ensures c.if-not-may_take_placed.true p
    (turn_node c.args.nodes.now c.args.turn p)

pub returns-clause-stay : goal.returns-clause-stay
returns-clause-stay c p low high =
    let turn = c.args.turn in
    let page = c.args.page in
    let small = mod-lt (p - page) c.requires.named.some in
    ap (λ (n : ℕ). wants_of c.args.self.now p (Stated n))
    (wraps c.args.nodes.now turn c.requires.named.some page p low)
    ∙ c.loop-passed.invariant (page + (p - page) % turn.count) p (omega arith)
    (omega (arith, small))
