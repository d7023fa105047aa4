use Rattle.std.proofs.Common.{◌≡◌, ℕ, ◌≤◌, ◌%◌, length, vec_len, slice_index, flat_map, replicate}
use Rattle.std.proofs.Common.{map-id, sym, ap, ◌∙◌, subst, All, arith}
use Rattle.std.proofs.lemmas.Iterator.Consumers.{YieldsList-from_first, YieldsList-end}
use Rattle.numa_mask.specs.NodeSet.{members}
use Rattle.numa_machine.specs.Weights.{NodeWeights, weight_at, total_weight, cycle}
use Rattle.numa_machine.proofs.Blocks.{length-cycle, cycle_at}
use Rattle.numa_machine.proofs.Turns.{weight_at-positive, weight_of-le-total_weight}
use Rattle.numa_machine.proofs.weights.Weights.cycle_of.Goals as goal

turns : (c : goal.In-None) → c.loop-node.cycle.items ≡ cycle (weight_at c.args.self.now)
    c.args.set.now
unfolding cycle
turns c =
    let start : c.into_iter-node-iterator.result ≡ c.args.set.now = cc in
    let whole =
    YieldsList-end (YieldsList-from_first (λ node. node) members (members c.args.set.now)
    (ap members start)) c.loop-node.yielded c.loop-node.node-iterator c.loop-node.yielded_by
    c.next.result c.next.new.self c.in-None.is c.next.ensures.steps in
    let all : c.loop-node.yielded ≡ members c.args.set.now = sym (map-id c.loop-node.yielded)
    ∙ whole.0 in
    c.loop-node.invariant ∙ ap (flat_map (λ node. replicate (weight_at c.args.self.now node) node))
    all

size : (c : goal.In-None) → vec_len c.loop-node.cycle ≡ total_weight (weight_at c.args.self.now)
    c.args.set.now
size c = omega (
  arith,
  c.loop-node.cycle.ok.0,
  ap (length {A = ℕ}) (turns c),
  length-cycle (weight_at c.args.self.now) c.args.set.now,
)

pub returns-clause-cycle : goal.returns-clause-cycle
returns-clause-cycle c = turns c

pub returns-clause-length : goal.returns-clause-length
returns-clause-length c = size c

pub returns-clause-places : goal.returns-clause-places
returns-clause-places c = λ index.
    ap (λ xs. slice_index xs (index % total_weight (weight_at c.args.self.now) c.args.set.now))
    (turns c) ∙ cycle_at (weight_at c.args.self.now) c.args.set.now index

pub returns-clause-some : goal.returns-clause-some
returns-clause-some c = λ some.
    let in_range : All (λ weight. (1 ≤ weight) × (weight ≤ 255)) c.args.self.now.weights =
    subst (λ (weights : NodeWeights). All (λ weight. (1 ≤ weight) × (weight ≤ 255)) weights.weights)
    c.self.view_is c.self.invariant.in_range in
    omega (
      arith,
      size c,
      c.weight.ensures.weight,
      c.weight.ensures.some some,
      weight_of-le-total_weight (weight_at c.args.self.now)
          (weight_at-positive c.args.self.now in_range) c.args.set.now,
    )
