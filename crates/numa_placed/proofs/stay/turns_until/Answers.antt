use Rattle.std.proofs.Common.{◌≡◌, ◌+◌, ◌∙◌, ap, arith, inl, inr, sym}
use Rattle.std.proofs.lemmas.Bool.{cases_lt}
use Rattle.numa_placed.specs.Turns.{turn_node}
use Rattle.numa_placed.proofs.Wrapped.{both-alike}
use Rattle.numa_placed.proofs.stay.turns_until.Goals as goal

pub loop-passed-preserved : goal.loop-passed-preserved
loop-passed-preserved c = record {
  alike = λ p low high. elim (cases_lt p (c.args.page + c.loop-passed.passed)) [
    | inl l ↦ c.loop-passed.invariant.alike p low l
    | inr g ↦
        let is : p ≡ c.args.page + c.loop-passed.passed = omega (arith, g, high) in
        let same : c.turn_node-here.result ≡ c.turn_node-there.result = omega arith in
        ap (turn_node c.args.nodes.now c.args.turn) is ∙ sym c.turn_node-here.ensures ∙ same
        ∙ c.turn_node-there.ensures ∙ sym (ap (turn_node c.args.others.now c.args.other) is)
  ];
  most = omega arith;
}

pub returns-then-here-there-clause-ends : goal.returns-then-here-there-clause-ends
returns-then-here-there-clause-ends c is same =
    let at : c.args.page + c.loop-passed.passed ≡ c.args.page = omega (arith, is) in
    c.if-here-there.true (c.turn_node-here.ensures
    ∙ ap (turn_node c.args.nodes.now c.args.turn) at ∙ same
    ∙ sym (ap (turn_node c.args.others.now c.args.other) at) ∙ sym c.turn_node-there.ensures)

pub returns-then-turn-other-clause-alike : goal.returns-then-turn-other-clause-alike
returns-then-turn-other-clause-alike c p low high =
    both-alike c.args.nodes.now c.args.others.now c.args.turn c.args.other c.requires.named.some
    (omega arith) c.args.page
    (λ q from to. c.loop-passed.invariant.alike q from (omega (arith, to))) p low

pub returns-clause-alike : goal.returns-clause-alike
returns-clause-alike c p low high = c.loop-passed.invariant.alike p low (omega (arith, high))

pub returns-clause-ends : goal.returns-clause-ends
returns-clause-ends c is same = absurd (omega (arith, is, c.requires.named.some))
