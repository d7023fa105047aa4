use Rattle.std.proofs.Common.{◌≡◌, ◌+◌, ◌*◌, ◌==◌, ℕ, List, take, drop, cond, arith, ap, ◌∙◌}
use Rattle.std.proofs.Common.{zero-add, refl, rules}
use Rattle.std.proofs.lemmas.List.Sums.{sum_by-take-drop}
use Rattle.std.proofs.lemmas.Simd.{get_or-replicate}
use Rattle.numa_lanes.specs.Spans.{node_count}
use Rattle.numa_lanes.proofs.counts.count_all.Goals as goal

pub loop-rest-init : goal.loop-rest-init
loop-rest-init c = record {
  left = λ node small. ap (λ had. had + node_count node c.args.nodes.now)
      (get_or-replicate 256 node 0 0 small) ∙ zero-add (node_count node c.args.nodes.now);
  long = refl;
}

pub loop-rest-preserved : goal.loop-rest-preserved
loop-rest-preserved c = record {
  left = λ node small.
      let n : ℕ = c.min-rounds.result * 32 in
      let rest : List ℕ = c.loop-rest.rest.now in
      let front : node_count node c.split_at.result.0.now ≡ node_count node (take n rest) =
      ap (node_count node) c.split_at.ensures.front in
      let back : node_count node c.split_at.result.1.now ≡ node_count node (drop n rest) =
      ap (node_count node) c.split_at.ensures.back in
      let both : node_count node (take n rest) + node_count node (drop n rest) ≡ node_count node
      rest = sum_by-take-drop (λ x. cond (x == node) 1 0) rest n in
      omega (arith, c.add_block.ensures node small, c.loop-rest.invariant.left node small);
  long = search rules;
}
