use Rattle.std.proofs.Common.{◌-◌, ◌∙◌, arith}
use Rattle.numa_placed.specs.Spots.{is_off, is_on}
use Rattle.numa_placed.proofs.Owned.{shared-part, unshared-part}
use Rattle.numa_placed.proofs.Shared.{IsShared}
use Rattle.numa_placed.proofs.places.add_shared.Goals as goal

pub returns-then-from-to-clause-counts : goal.returns-then-from-to-clause-counts
returns-then-from-to-clause-counts c node small =
    let both : IsShared c.args.run.now.first c.args.run.now.pages c.args.first
    (c.args.end - c.args.first) c.later-from.result c.earlier-to.result = record {
      low = c.later-from.ensures.first;
      low_run = c.later-from.ensures.second;
      least = c.later-from.ensures.least;
      high = c.earlier-to.ensures.first;
      high_run = omega (arith, c.earlier-to.ensures.second, c.requires.rises);
      most = λ page low high. c.earlier-to.ensures.most page low
          (omega (arith, high, c.requires.rises));
    } in
    omega (
      arith,
      c.add_slot.ensures.counts node small,
      shared-part (is_on node) c.args.nodes.now c.args.run.now c.args.first
          (c.args.end - c.args.first) c.later-from.result c.earlier-to.result both
          c.if-from-to.true,
    )

pub returns-then-from-to-clause-off : goal.returns-then-from-to-clause-off
returns-then-from-to-clause-off c =
    let both : IsShared c.args.run.now.first c.args.run.now.pages c.args.first
    (c.args.end - c.args.first) c.later-from.result c.earlier-to.result = record {
      low = c.later-from.ensures.first;
      low_run = c.later-from.ensures.second;
      least = c.later-from.ensures.least;
      high = c.earlier-to.ensures.first;
      high_run = omega (arith, c.earlier-to.ensures.second, c.requires.rises);
      most = λ page low high. c.earlier-to.ensures.most page low
          (omega (arith, high, c.requires.rises));
    } in
    shared-part is_off c.args.nodes.now c.args.run.now c.args.first
    (c.args.end - c.args.first) c.later-from.result c.earlier-to.result both
    c.if-from-to.true ∙ c.add_slot.ensures.off

pub returns-else-from-to-clause-counts : goal.returns-else-from-to-clause-counts
returns-else-from-to-clause-counts c node small =
    let both : IsShared c.args.run.now.first c.args.run.now.pages c.args.first
    (c.args.end - c.args.first) c.later-from.result c.earlier-to.result = record {
      low = c.later-from.ensures.first;
      low_run = c.later-from.ensures.second;
      least = c.later-from.ensures.least;
      high = c.earlier-to.ensures.first;
      high_run = omega (arith, c.earlier-to.ensures.second, c.requires.rises);
      most = λ page low high. c.earlier-to.ensures.most page low
          (omega (arith, high, c.requires.rises));
    } in
    omega (
      arith,
      unshared-part (is_on node) c.args.nodes.now c.args.run.now c.args.first
          (c.args.end - c.args.first) c.later-from.result c.earlier-to.result both
          (omega (arith, c.if-from-to.false)),
    )

pub returns-else-from-to-clause-off : goal.returns-else-from-to-clause-off
returns-else-from-to-clause-off c =
    let both : IsShared c.args.run.now.first c.args.run.now.pages c.args.first
    (c.args.end - c.args.first) c.later-from.result c.earlier-to.result = record {
      low = c.later-from.ensures.first;
      low_run = c.later-from.ensures.second;
      least = c.later-from.ensures.least;
      high = c.earlier-to.ensures.first;
      high_run = omega (arith, c.earlier-to.ensures.second, c.requires.rises);
      most = λ page low high. c.earlier-to.ensures.most page low
          (omega (arith, high, c.requires.rises));
    } in
    unshared-part is_off c.args.nodes.now c.args.run.now c.args.first
    (c.args.end - c.args.first) c.later-from.result c.earlier-to.result both
    (omega (arith, c.if-from-to.false))
