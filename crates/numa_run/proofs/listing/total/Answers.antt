use Rattle.std.proofs.Common.{◌≡◌, ℕ, ◌+◌, ◌∙◌, ap, arith, slice_index, suc, sym}
use Rattle.numa_placed.specs.Shifts.{sum_below}
use Rattle.numa_placed.proofs.Sources.{sum-none, sum-next}
use Rattle.numa_run.proofs.listing.total.Goals as goal

pub loop-node-init : goal.loop-node-init
loop-node-init c = record {
  sum = sym (sum-none (slice_index c.args.pages.now));
  few = omega arith;
}

pub overflow_add-total : goal.overflow_add-total
overflow_add-total c =
    omega (
      arith,
      c.requires c.loop-node.node c.loop-node-test.true,
      c.loop-node.invariant.few,
      c.loop-node-test.true,
    )

pub loop-node-preserved : goal.loop-node-preserved
loop-node-preserved c =
    let node = c.loop-node.node in
    let size : node + 1 ≡ suc node = omega arith in
    let more = sum-next node (node + 1) (slice_index c.args.pages.now) size in
    record {
      sum = omega (arith, more, c.loop-node.invariant.sum);
      few = omega (arith, c.requires node c.loop-node-test.true, c.loop-node.invariant.few);
    }

pub returns-clause-sum : goal.returns-clause-sum
returns-clause-sum c =
    let over : c.loop-node.node ≡ 256 = omega (
      arith,
      c.loop-node.auto.node-end,
      c.loop-node-test.false,
    ) in
    c.loop-node.invariant.sum
    ∙ ap (λ (n : ℕ). sum_below n (slice_index c.args.pages.now)) over

pub returns-clause-few : goal.returns-clause-few
returns-clause-few c =
    let over : c.loop-node.node ≡ 256 = omega (
      arith,
      c.loop-node.auto.node-end,
      c.loop-node-test.false,
    ) in
    omega (arith, c.loop-node.invariant.few, over)
