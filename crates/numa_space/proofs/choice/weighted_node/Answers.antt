use Rattle.std.proofs.Common.{◌≡◌, ◌%◌, true, [], ◌∷◌, nat_lt, refl, sym, ap, ◌∙◌, arith}
use Rattle.std.proofs.lemmas.Bool.{lt-ltb}
use Rattle.numa_mask.specs.NodeSet.{has, members}
use Rattle.numa_machine.specs.Weights.{weight_at, weighted_node, node_at}
use Rattle.numa_space.proofs.Chosen.{weighted-has}
use Rattle.numa_space.proofs.choice.weighted_node.Goals as goal

chosen : (c : goal.In-None)
    → has c.args.set.now (weighted_node (weight_at c.args.weights.now) c.args.set.now c.args.turn)
    ≡ true
chosen c = weighted-has (weight_at c.args.weights.now) c.args.set.now c.args.turn
    (omega (arith, c.total_weight.ensures.total, c.total_weight.ensures.some))

pub loop-node-init : goal.loop-node-init
unfolding weighted_node
loop-node-init c =
    let start : c.into_iter-node-iterator.result ≡ c.args.set.now = cc in
    λ i. node_at (weight_at c.args.weights.now) (members (start i))
    (c.args.turn % c.total_weight.ensures.total i)

pub returns-then-place-weight-clause-member : goal.returns-then-place-weight-clause-member
returns-then-place-weight-clause-member c =
    let step : members c.loop-node.node-iterator ≡ c.in-Some.node ∷ members c.next.new.self =
    c.in-Some.ensures.steps in
    let weight : c.from-weight.result ≡ weight_at c.args.weights.now c.in-Some.node =
    c.from-weight.ensures ∙ c.get.ensures.weight ∙ ap (weight_at c.args.weights.now)
    (c.from.ensures ∙ c.number.ensures.number) in
    let before : nat_lt c.loop-node.place (weight_at c.args.weights.now c.in-Some.node) ≡ true =
    lt-ltb c.loop-node.place (weight_at c.args.weights.now c.in-Some.node)
    (omega (arith, c.if-place-weight.true, weight)) in
    let here : node_at (weight_at c.args.weights.now) (c.in-Some.node ∷ members c.next.new.self)
    c.loop-node.place ≡ c.in-Some.node = rw before refl in
    let is : c.number-then-place-weight.result ≡ weighted_node (weight_at c.args.weights.now)
    c.args.set.now c.args.turn =
    c.number-then-place-weight.ensures.number ∙ sym here
    ∙ sym (ap (λ nodes. node_at (weight_at c.args.weights.now) nodes c.loop-node.place) step)
    ∙ c.loop-node.invariant in
    ap (has c.args.set.now) is ∙ weighted-has (weight_at c.args.weights.now) c.args.set.now
    c.args.turn (omega (arith, c.total_weight.ensures.total, c.total_weight.ensures.some))

pub returns-clause-member : goal.returns-clause-member
returns-clause-member c =
    let done : members c.loop-node.node-iterator ≡ [] = c.in-None.ensures.steps.0 in
    let is : weighted_node (weight_at c.args.weights.now) c.args.set.now c.args.turn ≡ 0 =
    sym c.loop-node.invariant
    ∙ ap (λ nodes. node_at (weight_at c.args.weights.now) nodes c.loop-node.place) done in
    ap (has c.args.set.now) (sym is) ∙ chosen c
