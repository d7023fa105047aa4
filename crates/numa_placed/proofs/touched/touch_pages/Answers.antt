use Rattle.std.proofs.Common.{◌-◌, ◌∙◌, arith, refl}
use Rattle.numa_placed.specs.Binds.{asked_by}
use Rattle.numa_placed.specs.Turns.{spots_of}
use Rattle.numa_placed.proofs.Stepping.{walked-begins, walked-ends}
use Rattle.numa_placed.proofs.touched.touch_pages.Goals as goal

pub loop-page-init : goal.loop-page-init
loop-page-init c = record {
  low = omega arith;
  high = c.requires.rises;
  kept = c.requires.kept;
  few = omega (arith, c.requires.moved, c.requires.left);
  limit = refl;
  walked = λ room are. walked-begins (asked_by c.args.space.now c.args.wants.now c.args.first
      (c.args.to - c.args.first) c.args.touch.task c.args.touch.cpu) (spots_of c.args.places.now)
      room c.args.walk.now c.requires.moved c.requires.left are;
}

pub loop-page-preserved : goal.loop-page-preserved
loop-page-preserved c = record {
  low = omega (arith, c.loop-page.invariant.low, c.in-Ok.ensures.next);
  high = c.in-Ok.ensures.end;
  kept = c.in-Ok.ensures.kept;
  few = c.in-Ok.ensures.few;
  limit = c.in-Ok.ensures.limit ∙ c.loop-page.invariant.limit;
  walked = λ room are. c.in-Ok.ensures.walked c.args.first (spots_of c.args.places.now) room
      c.loop-page.invariant.low (c.loop-page.invariant.walked room are);
}

pub returns-clause-bound : goal.returns-clause-bound
returns-clause-bound c room are =
    walked-ends (asked_by c.args.space.now c.args.wants.now c.args.first
    (c.args.to - c.args.first) c.args.touch.task c.args.touch.cpu) (spots_of c.args.places.now)
    room c.loop-page.page (spots_of c.loop-page.places) c.loop-page.walk (omega arith)
    (omega (arith, c.loop-page.invariant.high, c.requires.within))
    (c.loop-page.invariant.walked room are)
