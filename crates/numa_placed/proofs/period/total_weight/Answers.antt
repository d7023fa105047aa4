use Rattle.std.proofs.Common.{◌≡◌, [], ◌∷◌, ℕ, length, length-append, sum_by, ap, ◌∙◌, arith}
use Rattle.std.proofs.lemmas.List.Sums.{sum_by-cons}
use Rattle.numa_mask.specs.NodeSet.{members}
use Rattle.numa_machine.specs.Weights.{weight_at, total_weight}
use Rattle.numa_space.proofs.ListSizes.{weight-few}
use Rattle.numa_placed.proofs.period.total_weight.Goals as goal

pub loop-node-preserved : goal.loop-node-preserved
loop-node-preserved c =
    let step : members c.loop-node.node-iterator ≡ c.in-Some.node ∷ members c.next.new.self =
    c.in-Some.ensures.steps in
    let weight : c.from-total.result ≡ weight_at c.args.weights.now c.in-Some.node =
    c.from-total.ensures ∙ c.get.ensures.weight ∙ ap (weight_at c.args.weights.now)
    (c.from.ensures ∙ c.number.ensures.number) in
    let more = length-append c.loop-node.yielded (c.in-Some.node ∷ []) in
    record {
      sum =
          omega (
            arith,
            c.loop-node.invariant.sum,
            ap (sum_by (weight_at c.args.weights.now)) step,
            sum_by-cons (weight_at c.args.weights.now) c.in-Some.node (members c.next.new.self),
            weight,
          );
      count = omega (arith, c.loop-node.invariant.count, ap (length {A = ℕ}) step, more);
      high = omega (
        arith,
        c.loop-node.invariant.high,
        c.get.ensures.at_most,
        c.from-total.ensures,
        more,
      );
    }

pub overflow_add-total : goal.overflow_add-total
overflow_add-total c = omega (
  arith,
  c.loop-node.invariant.high,
  c.loop-node.invariant.count,
  weight-few c.args.set.now,
  c.get.ensures.at_most,
  c.from-total.ensures,
)

pub returns : goal.returns
unfolding total_weight
returns c =
    let done : members c.loop-node.node-iterator ≡ [] = c.in-None.ensures.steps.0 in
    omega (arith, c.loop-node.invariant.sum, ap (sum_by (weight_at c.args.weights.now)) done)
