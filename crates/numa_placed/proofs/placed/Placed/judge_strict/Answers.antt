use Rattle.numa_placed.specs.Astray.{astray_cause}
use Rattle.numa_placed.specs.Refusals.{span_cause}
use Rattle.numa_placed.specs.Spots.{spot_at}
use Rattle.numa_placed.proofs.Fits.{strict-told}
use Rattle.numa_placed.proofs.placed.Placed.judge_strict.Goals as goal

pub returns : goal.returns
returns c =
    let span = c.in_ok-first.ensures.span in
    strict-told c.judge_places.result (span_cause c.args.start c.args.length) _ _ span.0
    (λ i. astray_cause (spot_at (c.self.view_is i)) (span.1 i) (span.2 i) c.args.list.now)
    c.judge_places.ensures
