use Rattle.std.proofs.Common.{arith, sym, true, ◌∙◌}
use Rattle.std.proofs.lemmas.Bool.{eqb-false, eqb-true}
use Rattle.numa_words.proofs.Scripted.{none-more, some-there}
use Rattle.numa_words.proofs.first_touches.are_none.Goals as goal

pub loop-node-init : goal.loop-node-init
loop-node-init c = λ node low. absurd (omega (arith, low))

pub has_on-requires : goal.has_on-requires
has_on-requires c = omega (arith, c.loop-node-test.true)

pub loop-node-preserved : goal.loop-node-preserved
loop-node-preserved c =
    none-more c.args.said.now c.loop-node.node c.loop-node.invariant
    (sym c.has_on.ensures ∙ c.if-has_on.false)

pub returns-then-has_on-clause-some : goal.returns-then-has_on-clause-some
returns-then-has_on-clause-some c = λ is none.
    some-there c.args.said.now c.loop-node.node none (omega (arith, c.loop-node-test.true))
    (sym c.has_on.ensures ∙ c.if-has_on.true)

pub returns-clause-none : goal.returns-clause-none
returns-clause-none c = λ is. record {
  on = λ node small. c.loop-node.invariant node (omega (arith, small, c.loop-node-test.false));
  exhausted = eqb-true c.args.said.now.exhausted 0 is;
}

pub returns-clause-some : goal.returns-clause-some
returns-clause-some c = λ is none. eqb-false c.args.said.now.exhausted 0 is none.exhausted
