use Rattle.std.proofs.Common.{ap, arith}
use Rattle.numa_placed.proofs.Renamed.{tidied-begins, tidied-kept, tidied-spots}
use Rattle.numa_placed.proofs.tidy.tidied_copy.Goals as goal

pub loop-page-init : goal.loop-page-init
loop-page-init c = record {
  tidied = tidied-begins c.args.places.now _ c.requires.kept.whole
      (ap (λ map. map.runs) c.in-Ok.ensures);
  within = omega arith;
  limit = ap (λ map. map.max_ranges) c.in-Ok.ensures;
}

pub returns-clause-kept : goal.returns-clause-kept
returns-clause-kept c =
    tidied-kept c.args.places.now c.loop-page.next c.loop-page.last c.loop-page.page (omega arith)
    c.iter.ensures.rising c.loop-page.invariant.tidied

pub returns-clause-spots : goal.returns-clause-spots
returns-clause-spots c =
    tidied-spots c.args.places.now c.loop-page.next c.loop-page.last c.loop-page.page (omega arith)
    c.iter.ensures.rising c.loop-page.invariant.tidied
