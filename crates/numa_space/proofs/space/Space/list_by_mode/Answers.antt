use Rattle.std.proofs.Common.{◌≡◌, true, sym, ap, ◌∙◌, arith}
use Rattle.numa_mask.specs.NodeSet.{has}
use Rattle.numa_space.proofs.Looked.{in_force-node}
use Rattle.numa_space.proofs.space.Space.list_by_mode.Goals as goal

pub near-requires-in-Preferred : goal.near-requires-in-Preferred
near-requires-in-Preferred c =
    let member : has c.args.policy.now.effective c.first_node.result ≡ true =
    ap (λ set. has set c.first_node.result) (sym c.effective-set.ensures.effective)
    ∙ c.first_node.ensures.member in
    omega (
      arith,
      c.from.ensures,
      in_force-node c.self.inside c.args.self.now c.self.invariant
          c.self.view_is c.args.policy.now c.requires.in_force c.first_node.result member,
    )

pub near-requires-in-Interleave : goal.near-requires-in-Interleave
near-requires-in-Interleave c =
    let member : has c.args.policy.now.effective c.interleave_node.result ≡ true =
    ap (λ set. has set c.interleave_node.result) (sym c.effective-set.ensures.effective)
    ∙ c.interleave_node.ensures.member in
    omega (
      arith,
      c.from-in-Interleave.ensures,
      in_force-node c.self.inside c.args.self.now
          c.self.invariant c.self.view_is c.args.policy.now c.requires.in_force
          c.interleave_node.result member,
    )

pub near-requires-in-WeightedInterleave : goal.near-requires-in-WeightedInterleave
near-requires-in-WeightedInterleave c =
    let member : has c.args.policy.now.effective c.weighted_node.result ≡ true =
    ap (λ set. has set c.weighted_node.result) (sym c.effective-set.ensures.effective)
    ∙ c.weighted_node.ensures.member in
    omega (
      arith,
      c.from-in-WeightedInterleave.ensures,
      in_force-node c.self.inside c.args.self.now
          c.self.invariant c.self.view_is c.args.policy.now c.requires.in_force
          c.weighted_node.result
          member,
    )
