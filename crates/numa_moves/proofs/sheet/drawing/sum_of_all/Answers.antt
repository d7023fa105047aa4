use Rattle.std.proofs.Common.{List, subst}
use Rattle.std.proofs.lemmas.List.{take_all}
use Rattle.numa_moves.specs.Sums.{IsSumOf}
use Rattle.numa_moves.specs.declared.moving.ShareMove.{ShareMove}
use Rattle.numa_moves.proofs.Summing.{sum-next, sum-none}
use Rattle.numa_moves.proofs.sheet.drawing.sum_of_all.Goals as goal

pub loop-moved-init : goal.loop-moved-init
loop-moved-init c = sum-none c.new-sum.result c.new-sum.ensures.none c.new-sum.ensures.to

pub loop-moved-preserved : goal.loop-moved-preserved
loop-moved-preserved c =
    let d : ShareMove = record {
      share = record { span = record { first = 0; pages = 0 }; node = 0; there = 0 };
      to = 0;
      moved = 0;
    } in
    sum-next c.args.moves.now c.loop-moved.moved-index d c.loop-moved.sum
    c.add.new.self c.loop-moved-test.true c.loop-moved.invariant c.add.ensures

pub returns : goal.returns
returns c =
    subst (λ (l : List ShareMove). IsSumOf l c.loop-moved.sum)
    (take_all c.loop-moved.moved-index c.args.moves.now c.loop-moved-test.false)
    c.loop-moved.invariant
