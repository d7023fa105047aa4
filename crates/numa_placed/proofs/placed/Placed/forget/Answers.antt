use Rattle.numa_space.specs.History.{page_of, page_count}
use Rattle.numa_placed.specs.Refusals.{span_cause}
use Rattle.numa_placed.specs.Spots.{changed_spots, forgotten_spot, spot_at}
use Rattle.numa_placed.proofs.Edits.{lack-refusal}
use Rattle.numa_placed.proofs.placed.Placed.forget.Goals as goal

pub returns-clause-err : goal.returns-clause-err
returns-clause-err c =
    let span = c.in_ok-first.ensures.span in
    lack-refusal (span_cause c.args.start c.args.length) _
    (changed_spots (page_of c.args.start) (page_count c.args.length) forgotten_spot
    (spot_at c.args.self.now)) c.edit_places.result span.0
    (λ i. changed_spots (span.1 i) (span.2 i) forgotten_spot (spot_at (c.self.view_is i)))
    c.edit_places.ensures.edit.lack
