use Rattle.std.proofs.Common.{arith}
use Rattle.numa_huge.specs.Huge.{huge_at}
use Rattle.numa_placed.specs.Laid.{spot_at}
use Rattle.numa_words.specs.Touching.{nobody}
use Rattle.numa_words.proofs.Touched.{until-end, until-next, until-none}
use Rattle.numa_words.proofs.touching.state_all.Goals as goal

pub loop-page-init : goal.loop-page-init
loop-page-init c = record {
  near = omega arith;
  so = until-none (nobody c.args.space.now.machine.nodes) (huge_at c.args.places.now.runs)
      (spot_at c.args.lying.now);
}

pub loop-page-preserved : goal.loop-page-preserved
loop-page-preserved c = record {
  near = c.alike_end-next.ensures.within;
  so = until-next (nobody c.args.space.now.machine.nodes) (huge_at c.args.places.now.runs)
      (spot_at c.args.lying.now) (spot_at c.loop-page.lying) (spot_at c.state_run.new.lying)
      c.loop-page.page c.alike_end-next.result c.alike_end-next.ensures.rises
      c.alike_end-next.ensures.alike c.loop-page.invariant.so c.in-Ok.ensures;
}

pub returns : goal.returns
returns c =
    until-end (nobody c.args.space.now.machine.nodes) (huge_at c.args.places.now.runs)
    (spot_at c.args.lying.now) (spot_at c.loop-page.lying) c.loop-page.page
    (omega (arith, c.loop-page-test.false)) c.loop-page.invariant.so
