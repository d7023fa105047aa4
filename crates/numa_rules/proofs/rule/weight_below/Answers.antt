use Rattle.std.proofs.Common.{◌≡◌, ℕ, List, [], sum_by, filter, ap, arith}
use Rattle.std.specs.Prelude.{nat_lt}
use Rattle.numa_mask.specs.NodeSet.{members}
use Rattle.numa_machine.specs.Weights.{weight_at, weight_below}
use Rattle.numa_space.proofs.ListSizes.{weight-few}
use Rattle.numa_rules.proofs.rule.weight_below.Goals as goal

pub overflow_add-sum : goal.overflow_add-sum
overflow_add-sum c =
    let loop = c.loop-member.invariant in
    let few = weight-few c.args.set.now in
    omega (arith, loop.high, loop.count, few, c.get.ensures.at_most, c.from-sum.ensures)

pub returns : goal.returns
unfolding weight_below
returns c =
    let weight = weight_at c.args.weights.now in
    let below = λ (nodes : List ℕ). sum_by weight (filter (λ m. nat_lt m c.args.node) nodes) in
    let done : members c.loop-member.member-iterator ≡ [] = c.in-None.ensures.steps.0 in
    omega (arith, c.loop-member.invariant.sum, ap below done)
