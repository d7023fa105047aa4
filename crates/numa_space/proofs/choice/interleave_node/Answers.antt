use Rattle.std.proofs.Common.{◌≡◌, ◌%◌, ℕ, Some, sym, slice_get, slice_index, ap, ◌∙◌}
use Rattle.numa_mask.specs.NodeSet.{members, weight_of}
use Rattle.numa_machine.specs.Weights.{interleave_node}
use Rattle.numa_space.proofs.Chosen.{index-got}
use Rattle.numa_space.proofs.choice.interleave_node.Goals as goal

pub returns-clause-node : goal.returns-clause-node
unfolding interleave_node
returns-clause-node c =
    let turn : ℕ = c.args.turn % c.from.result in
    let same : c.from.result ≡ weight_of c.args.set.now = c.from.ensures
    ∙ c.weight.ensures.weight in
    let got : slice_get (members c.args.set.now) turn ≡ Some c.in-Some.node = sym c.nth.ensures.nth
    ∙ c.in-Some.is in
    c.number.ensures.number ∙ sym (index-got (members c.args.set.now) turn c.in-Some.node got)
    ∙ ap (λ w. slice_index (members c.args.set.now) (c.args.turn % w)) same
