use Rattle.std.proofs.Common.{ℕ, ◌+◌, ◌<◌, ◌∙◌, ap, arith, length, refl, rules}
use Rattle.std.specs.Prelude.{slice_index}
use Rattle.std.proofs.lemmas.List.{length-set}
use Rattle.numa_pools.proofs.Walked.{done-more, done-none}
use Rattle.numa_words.specs.Touching.{held}
use Rattle.numa_words.proofs.touching.add_counts.Goals as goal

pub loop-node-init : goal.loop-node-init
loop-node-init c = record {
  long = search rules;
  other = search rules;
  done = done-none _ _;
  exhausted = refl;
}

pub loop-node-preserved : goal.loop-node-preserved
loop-node-preserved c =
    let so = c.loop-node.invariant in
    let within : c.loop-node.node < length c.loop-node.said.on =
    omega (arith, so.long, c.loop-node-test.true) in
    record {
      long = length-set c.loop-node.said.on c.loop-node.node c.saturating_add.result ∙ so.long;
      other = so.other;
      done = done-more (λ (k : ℕ). held (slice_index c.args.said.now.on k
          + slice_index c.counts_in-counts.result.on k)) _ c.loop-node.said.on c.loop-node.node
          c.saturating_add.result so.done within
          (c.saturating_add.ensures ∙ ap (λ (n : ℕ). held (n
          + slice_index c.counts_in-counts.result.on c.loop-node.node))
          (so.done.rest c.loop-node.node (omega arith)));
      exhausted = so.exhausted;
    }

pub returns-clause-on : goal.returns-clause-on
returns-clause-on c = λ node small.
    c.loop-node.invariant.done.done node (omega (arith, small, c.loop-node-test.false))
    ∙ ap (λ (n : ℕ). held (slice_index c.args.said.now.on node + n))
    (c.counts_in-counts.ensures.on node small)

pub returns-clause-exhausted : goal.returns-clause-exhausted
returns-clause-exhausted c = c.loop-node.invariant.exhausted
