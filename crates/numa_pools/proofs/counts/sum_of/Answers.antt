use Rattle.std.proofs.Common.{ℕ, ◌<◌, ◌∙◌, ap, arith, length}
use Rattle.std.specs.Prelude.{sum}
use Rattle.std.proofs.lemmas.List.{take_all}
use Rattle.std.proofs.lemmas.List.Sums.{sum_by_more, sum_by_more_le}
use Rattle.numa_pools.proofs.counts.sum_of.Goals as goal

pub overflow_add-total : goal.overflow_add-total
overflow_add-total c =
    let within : c.loop-node.node < length c.args.xs.now =
    omega (arith, c.loop-node.invariant.long, c.loop-node-test.true) in
    omega (
      arith,
      c.requires,
      c.loop-node.invariant.sum,
      sum_by_more_le (λ (x : ℕ). x) c.args.xs.now c.loop-node.node 0 within,
    )

pub loop-node-preserved : goal.loop-node-preserved
loop-node-preserved c =
    let within : c.loop-node.node < length c.args.xs.now =
    omega (arith, c.loop-node.invariant.long, c.loop-node-test.true) in
    record {
      long = c.loop-node.invariant.long;
      sum = omega (
        arith,
        c.loop-node.invariant.sum,
        sum_by_more (λ (x : ℕ). x) c.args.xs.now c.loop-node.node 0 within,
      );
    }

pub returns : goal.returns
returns c =
    c.loop-node.invariant.sum
    ∙ ap sum (take_all c.loop-node.node c.args.xs.now
    (omega (arith, c.loop-node.invariant.long, c.loop-node-test.false)))
