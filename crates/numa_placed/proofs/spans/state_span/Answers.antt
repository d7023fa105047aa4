use Rattle.std.proofs.Common.{is_some}
use Rattle.numa_ranges.specs.Runs.{page_at}
use Rattle.numa_placed.specs.Spots.{changed_spots, stated_spot, stated_spots}
use Rattle.numa_placed.specs.Turns.{spots_of}
use Rattle.numa_placed.proofs.Begun.{stored-alike}
use Rattle.numa_placed.proofs.Stating.{stated-all}
use Rattle.numa_placed.proofs.spans.state_span.Goals as goal

pub returns-then-is_in_one-clause-edit : goal.returns-then-is_in_one-clause-edit
returns-then-is_in_one-clause-edit c =
    let spots = spots_of c.args.places.now in
    stored-alike
    (changed_spots c.args.said.first c.args.said.pages (stated_spot c.args.said.node) spots)
    (stated_spots (λ p. is_some (page_at c.args.space.now.ranges p)) c.args.said.first
    c.args.said.pages c.args.said.node spots) c.args.places.now c.edit_places.new.places
    c.edit_places.result
    (stated-all (λ p. is_some (page_at c.args.space.now.ranges p)) c.args.said.first
    c.args.said.pages c.args.said.node spots (c.is_in_one.ensures c.if-is_in_one.true))
    c.edit_places.ensures.edit

pub returns-clause-edit : goal.returns-clause-edit
returns-clause-edit c =
    stored-alike (spots_of c.in-Ok.next)
    (stated_spots (λ p. is_some (page_at c.args.space.now.ranges p)) c.args.said.first
    c.args.said.pages c.args.said.node (spots_of c.args.places.now)) c.args.places.now
    c.put_places.new.places c.put_places.result
    c.in-Ok.ensures.spots c.put_places.ensures.edit
