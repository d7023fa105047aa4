use Rattle.std.proofs.Common.{◌≡◌, ◌%◌, ℕ, Some, sym, slice_get, slice_index, ap, ◌∙◌}
use Rattle.numa_mask.specs.NodeSet.{members, weight_of}
use Rattle.numa_machine.specs.Weights.{interleave_node}
use Rattle.numa_space.proofs.Chosen.{index-got}
use Rattle.numa_rules.proofs.rule.turn_of.Goals as goal

pub returns : goal.returns
unfolding interleave_node
returns c =
    let set = c.args.set.now in
    let turn : ℕ = c.args.turn % c.from-members.result in
    let same : c.from-members.result ≡ weight_of set =
    c.from-members.ensures ∙ c.weight.ensures.weight in
    let got : slice_get (members set) turn ≡ Some c.in-Some.node =
    sym c.nth.ensures.nth ∙ c.in-Some.is in
    let node : c.number.result ≡ interleave_node set c.args.turn =
    c.number.ensures.number ∙ sym (index-got (members set) turn c.in-Some.node got)
    ∙ ap (λ w. slice_index (members set) (c.args.turn % w)) same in
    λ i. record { place = c.args.turn % same i; members = same i; node = node i }
