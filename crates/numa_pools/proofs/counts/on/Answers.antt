use Rattle.std.proofs.Common.{ℕ, ◌<◌, ◌≤◌, ◌∙◌, arith, rules, length, sym}
use Rattle.std.specs.Prelude.{slice_index, if◌then◌else◌}
use Rattle.std.proofs.lemmas.List.{length-set}
use Rattle.numa_mask.specs.NodeSet.{has}
use Rattle.numa_pools.proofs.Walked.{done-more, done-none, done-on}
use Rattle.numa_pools.proofs.counts.on.Goals as goal

pub loop-node-init : goal.loop-node-init
loop-node-init c = record {
  long = search rules;
  old = search rules;
  other = search rules;
  done = done-none _ _;
}

pub loop-node-preserved : goal.loop-node-preserved
loop-node-preserved c =
    let so = c.loop-node.invariant in
    let within : c.loop-node.node < length c.loop-node.those =
    omega (arith, so.long, c.loop-node-test.true) in
    record {
      long = length-set c.loop-node.those c.loop-node.node c.number_on.result ∙ so.long;
      old = so.old;
      other = so.other;
      done = done-more (λ (k : ℕ). if has c.args.nodes.now k then slice_index c.args.xs.now k else
          0) _ c.loop-node.those c.loop-node.node c.number_on.result so.done within
          (c.number_on.ensures);
    }

pub returns : goal.returns
returns c =
    let so = c.loop-node.invariant in
    let end : 256 ≤ c.loop-node.node = omega (arith, c.loop-node-test.false) in
    done-on c.args.nodes.now _ c.args.xs.now c.loop-node.those c.loop-node.node (so.long ∙ sym
    so.other) (omega (arith, so.other, end)) so.done
