use Rattle.std.proofs.Common.{ℕ, Bool, is_some}
use Rattle.numa_ranges.specs.Runs.{page_at}
use Rattle.numa_placed.specs.Spots.{changed_spots, stated_beside, stated_spot}
use Rattle.numa_placed.specs.Turns.{spots_of}
use Rattle.numa_placed.proofs.Begun.{stored-alike}
use Rattle.numa_placed.proofs.Stating.{stated-bare}
use Rattle.numa_placed.proofs.spans.state_others.Goals as goal

pub returns-then-is_bare-clause-edit : goal.returns-then-is_bare-clause-edit
returns-then-is_bare-clause-edit c =
    let mapped : ℕ → Bool = λ p. is_some (page_at c.args.space.now.ranges p) in
    let spots = spots_of c.args.places.now in
    stored-alike
    (changed_spots c.args.said.first c.args.said.pages (stated_spot c.args.said.node) spots)
    (stated_beside mapped c.args.resident.now c.args.said.first c.args.said.pages c.args.said.node
    spots) c.args.places.now c.edit_places.new.places c.edit_places.result
    (stated-bare mapped c.args.resident.now c.args.said.first c.args.said.pages c.args.said.node
    spots (c.is_bare.ensures.mapped c.if-is_bare.true) (c.is_bare.ensures.none c.if-is_bare.true))
    c.edit_places.ensures.edit

pub returns-clause-edit : goal.returns-clause-edit
returns-clause-edit c =
    let mapped : ℕ → Bool = λ p. is_some (page_at c.args.space.now.ranges p) in
    stored-alike (spots_of c.in-Ok.next)
    (stated_beside mapped c.args.resident.now c.args.said.first c.args.said.pages c.args.said.node
    (spots_of c.args.places.now)) c.args.places.now c.put_places.new.places c.put_places.result
    c.in-Ok.ensures.spots c.put_places.ensures.edit
