use Rattle.std.proofs.Common.{◌≡◌, ℕ, ◌+◌, ◌^◌, ◌∙◌, ap, arith, slice_index, suc, sym}
use Rattle.numa_placed.specs.Shifts.{stay_on, sum_below}
use Rattle.numa_placed.proofs.Sources.{stay-few, sum-none, sum-next}
use Rattle.numa_placed.proofs.filling.stay.Goals as goal

pub loop-node-init : goal.loop-node-init
loop-node-init c = record {
  sum = sym (sum-none (stay_on (slice_index c.args.targets.now) (slice_index c.args.counts.now)
      (slice_index c.args.gone.now)));
  few = omega arith;
}

pub overflow_add-total : goal.overflow_add-total
overflow_add-total c =
    let node = c.loop-node.node in
    omega (
      arith,
      stay-few (slice_index c.args.targets.now) (slice_index c.args.counts.now)
          (slice_index c.args.gone.now) node (2 ^ 35) (c.requires node c.loop-node-test.true),
      c.stay_on-total.ensures,
      c.loop-node.invariant.few,
      c.loop-node-test.true,
    )

pub loop-node-preserved : goal.loop-node-preserved
loop-node-preserved c =
    let node = c.loop-node.node in
    let go = slice_index c.args.targets.now in
    let count = slice_index c.args.counts.now in
    let gone = slice_index c.args.gone.now in
    let size : node + 1 ≡ suc node = omega arith in
    let more = sum-next node (node + 1) (stay_on go count gone) size in
    let here = c.stay_on-total.ensures in
    record {
      sum = omega (arith, more, here, c.loop-node.invariant.sum);
      few = omega (
        arith,
        stay-few go count gone node (2 ^ 35) (c.requires node c.loop-node-test.true),
        here,
        c.loop-node.invariant.few,
      );
    }

pub returns : goal.returns
returns c =
    let over : c.loop-node.node ≡ 256 = omega (
      arith,
      c.loop-node.auto.node-end,
      c.loop-node-test.false,
    ) in
    record {
      sum = c.loop-node.invariant.sum ∙ ap (λ (n : ℕ). sum_below n (stay_on
          (slice_index c.args.targets.now) (slice_index c.args.counts.now)
          (slice_index c.args.gone.now))) over;
      few = omega (arith, over, c.loop-node.invariant.few);
    }
