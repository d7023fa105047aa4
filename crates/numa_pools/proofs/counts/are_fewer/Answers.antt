use Rattle.std.proofs.Common.{◌≡◌, ℕ, ◌<◌, ◌≤◌, ◌∙◌, false, ap, arith, inl, inr, length, sym}
use Rattle.std.specs.Prelude.{nat_lt, sum}
use Rattle.std.proofs.lemmas.Bool.{le-ltb, ltb-false}
use Rattle.std.proofs.lemmas.List.{take_all}
use Rattle.std.proofs.lemmas.List.Sums.{sum_by_more, sum_by_more_le, sum_by-take-le}
use Rattle.numa_pools.proofs.counts.are_fewer.Goals as goal

pub overflow_add-total : goal.overflow_add-total
overflow_add-total c =
    let within : c.loop-node.node < length c.args.xs.now =
    omega (arith, c.loop-node.invariant.long, c.loop-node-test.true) in
    omega (
      arith,
      c.requires,
      c.loop-node.invariant.sum,
      sum_by_more_le (λ (x : ℕ). x) c.args.xs.now c.loop-node.node 0 within,
    )

pub loop-node-preserved : goal.loop-node-preserved
loop-node-preserved c =
    let within : c.loop-node.node < length c.args.xs.now =
    omega (arith, c.loop-node.invariant.long, c.loop-node-test.true) in
    record {
      long = c.loop-node.invariant.long;
      sum = omega (
        arith,
        c.loop-node.invariant.sum,
        sum_by_more (λ (x : ℕ). x) c.args.xs.now c.loop-node.node 0 within,
      );
    }

pub returns-then-not-is_less : goal.returns-then-not-is_less
returns-then-not-is_less c =
    let most : c.args.pages ≤ c.loop-node.total =
    ltb-false c.loop-node.total c.args.pages (sym c.is_less.ensures ∙ c.if-not-is_less.true) in
    sym (le-ltb (sum c.args.xs.now) c.args.pages (omega (
      arith,
      most,
      c.loop-node.invariant.sum,
      sum_by-take-le (λ (x : ℕ). x) c.args.xs.now c.loop-node.node,
    )))

pub returns : goal.returns
returns c = ap (λ (n : ℕ). nat_lt n c.args.pages)
    (c.loop-node.invariant.sum
    ∙ ap sum (take_all c.loop-node.node c.args.xs.now
    (omega (arith, c.loop-node.invariant.long, c.loop-node-test.false))))
