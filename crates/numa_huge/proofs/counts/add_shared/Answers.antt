use Rattle.std.proofs.Common.{◌-◌, arith}
use Rattle.numa_placed.proofs.Shared.{IsShared}
use Rattle.numa_huge.specs.Huge.{has_reserved, on_node}
use Rattle.numa_huge.proofs.Left.{shared-part, unshared-part}
use Rattle.numa_huge.proofs.counts.add_shared.Goals as goal

pub returns-then-from-to-clause-on : goal.returns-then-from-to-clause-on
returns-then-from-to-clause-on c node small =
    let both : IsShared c.args.run.now.first c.args.run.now.pages c.args.first
    (c.args.end - c.args.first) c.later-from.result c.earlier-to.result = record {
      low = c.later-from.ensures.first;
      low_run = c.later-from.ensures.second;
      least = c.later-from.ensures.least;
      high = c.earlier-to.ensures.first;
      high_run = omega (arith, c.earlier-to.ensures.second, c.requires.rises);
      most = λ page low high. c.earlier-to.ensures.most page low
          (omega (arith, high, c.requires.rises));
    } in
    omega (
      arith,
      c.add_spot.ensures.on node small,
      shared-part (on_node node) c.args.run.now c.args.first (c.args.end - c.args.first)
          c.later-from.result c.earlier-to.result both c.if-from-to.true,
    )

pub returns-then-from-to-clause-reserved : goal.returns-then-from-to-clause-reserved
returns-then-from-to-clause-reserved c =
    let both : IsShared c.args.run.now.first c.args.run.now.pages c.args.first
    (c.args.end - c.args.first) c.later-from.result c.earlier-to.result = record {
      low = c.later-from.ensures.first;
      low_run = c.later-from.ensures.second;
      least = c.later-from.ensures.least;
      high = c.earlier-to.ensures.first;
      high_run = omega (arith, c.earlier-to.ensures.second, c.requires.rises);
      most = λ page low high. c.earlier-to.ensures.most page low
          (omega (arith, high, c.requires.rises));
    } in
    omega (
      arith,
      c.add_spot.ensures.reserved,
      shared-part has_reserved c.args.run.now c.args.first (c.args.end - c.args.first)
          c.later-from.result c.earlier-to.result both c.if-from-to.true,
    )

pub returns-else-from-to-clause-on : goal.returns-else-from-to-clause-on
returns-else-from-to-clause-on c node small =
    let both : IsShared c.args.run.now.first c.args.run.now.pages c.args.first
    (c.args.end - c.args.first) c.later-from.result c.earlier-to.result = record {
      low = c.later-from.ensures.first;
      low_run = c.later-from.ensures.second;
      least = c.later-from.ensures.least;
      high = c.earlier-to.ensures.first;
      high_run = omega (arith, c.earlier-to.ensures.second, c.requires.rises);
      most = λ page low high. c.earlier-to.ensures.most page low
          (omega (arith, high, c.requires.rises));
    } in
    omega (
      arith,
      unshared-part (on_node node) c.args.run.now c.args.first (c.args.end - c.args.first)
          c.later-from.result c.earlier-to.result both (omega (arith, c.if-from-to.false)),
    )

pub returns-else-from-to-clause-reserved : goal.returns-else-from-to-clause-reserved
returns-else-from-to-clause-reserved c =
    let both : IsShared c.args.run.now.first c.args.run.now.pages c.args.first
    (c.args.end - c.args.first) c.later-from.result c.earlier-to.result = record {
      low = c.later-from.ensures.first;
      low_run = c.later-from.ensures.second;
      least = c.later-from.ensures.least;
      high = c.earlier-to.ensures.first;
      high_run = omega (arith, c.earlier-to.ensures.second, c.requires.rises);
      most = λ page low high. c.earlier-to.ensures.most page low
          (omega (arith, high, c.requires.rises));
    } in
    omega (
      arith,
      unshared-part has_reserved c.args.run.now c.args.first (c.args.end - c.args.first)
          c.later-from.result c.earlier-to.result both (omega (arith, c.if-from-to.false)),
    )
