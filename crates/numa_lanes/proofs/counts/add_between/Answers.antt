use Rattle.std.proofs.Common.{◌≡◌, arith, refl, rules, inl, inr}
use Rattle.std.proofs.lemmas.Bool.{cases_lt}
use Rattle.numa_lanes.specs.Spans.{node_count}
use Rattle.numa_lanes.proofs.EndLemmas.{counted_nowhere}
use Rattle.numa_lanes.proofs.counts.add_between.Goals as goal

pub loop-node-init : goal.loop-node-init
loop-node-init c = record {
  below = λ node lt small.
      let none : node_count node c.args.block.now ≡ 0 = counted_nowhere node c.args.block.now
      (λ k here is. omega (arith, c.requires.ends k here, is)) in
      omega (arith, none);
  from = λ node le. refl;
  long = search rules;
}

pub returns : goal.returns
returns c node small =
    elim (cases_lt node c.loop-node.node) [
      | inl lt ↦ c.loop-node.invariant.below node lt small
      | inr ge ↦
          let none : node_count node c.args.block.now ≡ 0 = counted_nowhere node c.args.block.now
          (λ k here is. omega (arith, c.requires.ends k here, is)) in
          omega (arith, none, c.loop-node.invariant.from node ge)
    ]
