use Rattle.std.proofs.Common.{◌*◌, ℕ, List, arith}
use Rattle.numa_lanes.proofs.EndLemmas.{more_above, more_below}
use Rattle.numa_lanes.proofs.ends.ends.Goals as goal

pub loop-round-preserved : goal.loop-round-preserved
loop-round-preserved c =
    let block : List ℕ = c.args.block.now in
    let at : ℕ = c.loop-round.round * 32 in
    record {
      least = λ k lt. more_above block c.loop-round.least c.lesser-least.result at k
          c.loop-round.invariant.least c.lesser-least.ensures.lanes c.lesser-least.ensures.entries
          (omega arith);
      greatest = λ k lt. more_below block c.loop-round.greatest c.greater-greatest.result at k
          c.loop-round.invariant.greatest c.greater-greatest.ensures.lanes
          c.greater-greatest.ensures.entries (omega arith);
      least_long = c.lesser-least.ensures.long;
      greatest_long = c.greater-greatest.ensures.long;
    }

pub returns : goal.returns
returns c k lt =
    let low = c.loop-round.invariant.least k (omega arith) in
    let high = c.loop-round.invariant.greatest k (omega arith) in (
      omega (arith, c.least_lane.ensures low.0 (omega (arith, low.1)), low.2),
      omega (arith, c.greatest_lane.ensures high.0 (omega (arith, high.1)), high.2),
    )
