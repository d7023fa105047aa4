use Rattle.std.proofs.Common.{◌∙◌, arith, refl, rules}
use Rattle.numa_moves.proofs.Merging.{merged-next, stays-then}
use Rattle.numa_moves.proofs.sums.MoveSum.merge.Goals as goal

pub loop-node-init : goal.loop-node-init
loop-node-init c = record {
  placed = search rules;
  moved = search rules;
  merged = λ node none. absurd (omega (arith, none));
  apart = λ node le small. record {
    gone = refl;
    to = refl;
    stays = refl;
    lacking = refl;
  };
}

pub loop-node-preserved : goal.loop-node-preserved
loop-node-preserved c =
    let k = c.loop-node.node in
    let so = c.loop-node.invariant in
    record {
      placed = c.add_node.ensures.sums.0 ∙ so.placed;
      moved = c.add_node.ensures.sums.1 ∙ so.moved;
      merged = λ node low small.
          merged-next c.args.self.now c.args.other.now c.loop-node.self c.add_node.new.self k node
          c.add_node.ensures.merged (λ apart. c.add_node.ensures.apart node apart small)
          (λ le. so.apart node le small) (λ lt. so.merged node lt small) (omega (arith, low));
      apart = λ node le small.
          stays-then c.args.self.now c.loop-node.self c.add_node.new.self node
          (so.apart node (omega (arith, le)) small)
          (c.add_node.ensures.apart node (λ same. omega (arith, same, le)) small);
    }

pub returns : goal.returns
returns c = record {
  placed = c.loop-node.invariant.placed;
  moved = c.loop-node.invariant.moved;
  merged = λ node low small. c.loop-node.invariant.merged node (omega (
    arith,
    low,
    small,
    c.min-node-end.ensures,
    c.loop-node-test.false,
  )) small;
  apart = λ node le small. c.loop-node.invariant.apart node (omega (
    arith,
    le,
    c.min-node-end.ensures,
    c.loop-node.auto.node-end,
  )) small;
}
