use Rattle.std.proofs.Common.{◌≡◌, ◌+◌, ◌-◌, ◌/◌, ℕ, ap, arith}
use Rattle.numa_pools.specs.Rounds.{turns_within}
use Rattle.numa_pools.proofs.Each.{turns_within-enough, turns_within-none}
use Rattle.numa_pools.proofs.Narrowing.{narrowed}
use Rattle.numa_pools.proofs.turns.full_rounds.Goals as goal

pub loop-high-init : goal.loop-high-init
loop-high-init c = record {
  order = c.requires.some;
  most = omega arith;
  few = omega (arith, turns_within-none c.args.room.now, c.requires.some);
  enough = omega (arith, turns_within-enough c.args.times c.args.room.now, c.requires.room);
}

pub loop-high-preserved : goal.loop-high-preserved
loop-high-preserved c =
    let low : ℕ = c.loop-high.low in
    let high : ℕ = c.loop-high.high in
    let middle : ℕ = low + (high - low) / 2 in
    (narrowed c.args.times c.args.room.now low high middle c.either-low.result c.either-high.result
    c.are_few-few.result c.loop-high.invariant (omega (arith, c.loop-high-test.true))
    (omega (arith, c.loop-high-test.true)) c.are_few-few.ensures c.either-low.ensures
    c.either-high.ensures).0

pub loop-high-smaller : goal.loop-high-smaller
loop-high-smaller c =
    let low : ℕ = c.loop-high.low in
    let high : ℕ = c.loop-high.high in
    let middle : ℕ = low + (high - low) / 2 in
    (narrowed c.args.times c.args.room.now low high middle c.either-low.result c.either-high.result
    c.are_few-few.result c.loop-high.invariant (omega (arith, c.loop-high-test.true))
    (omega (arith, c.loop-high-test.true)) c.are_few-few.ensures c.either-low.ensures
    c.either-high.ensures).1

pub returns : goal.returns
returns c =
    let next : c.loop-high.high ≡ c.loop-high.low + 1 =
    omega (arith, c.loop-high-test.false, c.loop-high.invariant.order) in
    record {
      left = c.loop-high.invariant.few;
      most = omega (
        arith,
        c.loop-high.invariant.enough,
        ap (λ (n : ℕ). turns_within n c.args.room.now) next,
      );
    }
