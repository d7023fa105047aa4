use Rattle.std.proofs.Common.{◌∙◌, arith, refl}
use Rattle.numa_moves.proofs.Merging.{none-next}
use Rattle.numa_moves.proofs.sums.MoveSum.clear.Goals as goal

pub loop-node-init : goal.loop-node-init
loop-node-init c = record {
  placed = refl;
  moved = refl;
  at = λ node none. absurd (omega (arith, none));
}

pub loop-node-preserved : goal.loop-node-preserved
loop-node-preserved c =
    let k = c.loop-node.node in
    let so = c.loop-node.invariant in
    record {
      placed = c.clear_at.ensures.sums.0 ∙ so.placed;
      moved = c.clear_at.ensures.sums.1 ∙ so.moved;
      at = λ node low small.
          none-next c.loop-node.self c.clear_at.new.self k node c.clear_at.ensures.none
          (λ apart. c.clear_at.ensures.apart node apart small) (λ lt. so.at node lt small)
          (omega (arith, low));
    }

pub returns : goal.returns
returns c = record {
  placed = c.loop-node.invariant.placed;
  moved = c.loop-node.invariant.moved;
  at = λ node low small. c.loop-node.invariant.at node (omega (
    arith,
    low,
    small,
    c.min-node-end.ensures,
    c.loop-node-test.false,
  )) small;
}
