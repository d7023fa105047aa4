use Rattle.std.proofs.Common.{is_some}
use Rattle.numa_ranges.specs.Runs.{page_at}
use Rattle.numa_space.specs.History.{page_of, page_count}
use Rattle.numa_placed.specs.Refusals.{state_cause}
use Rattle.numa_placed.specs.Spots.{spot_at, stated_spots}
use Rattle.numa_placed.proofs.Edits.{lack-refusal}
use Rattle.numa_placed.proofs.placed.Placed.state.Goals as goal

pub returns-clause-err : goal.returns-clause-err
returns-clause-err c =
    let span = c.in_ok-said.ensures.span in
    lack-refusal (state_cause c.args.space.now.machine c.args.start c.args.length c.args.node) _
    (stated_spots (λ p. is_some (page_at c.args.space.now.ranges p)) (page_of c.args.start)
    (page_count c.args.length) c.args.node (spot_at c.args.self.now)) c.state_span.result
    span.0
    (λ i. stated_spots (λ p. is_some (page_at c.args.space.now.ranges p)) (span.1 i) (span.2 i)
    (span.3 i) (spot_at (c.self.view_is i))) c.state_span.ensures.edit.lack
