use Rattle.std.proofs.Common.{ℕ, Bool, is_some, subst}
use Rattle.numa_ranges.specs.Runs.{page_at}
use Rattle.numa_placed.specs.Shifts.{is_short}
use Rattle.numa_placed.specs.Spots.{stated_beside}
use Rattle.numa_placed.specs.Stored.{IsStoredWithin}
use Rattle.numa_placed.specs.Turns.{spots_of}
use Rattle.numa_placed.specs.declared.spot.Spot.{Spot}
use Rattle.numa_placed.proofs.Fits.{memory-short}
use Rattle.numa_placed.proofs.Stating.{stated-bare}
use Rattle.numa_placed.proofs.spans.state_others_within.Goals as goal

pub returns-then-is_bare-clause-edit : goal.returns-then-is_bare-clause-edit
returns-then-is_bare-clause-edit c room are =
    let mapped : ℕ → Bool = λ p. is_some (page_at c.args.space.now.ranges p) in
    let bare = stated-bare mapped c.args.resident.now c.args.said.first c.args.said.pages
    c.args.said.node (spots_of c.args.places.now) (c.is_bare.ensures.mapped c.if-is_bare.true)
    (c.is_bare.ensures.none c.if-is_bare.true) in
    subst (λ (after : ℕ → Spot). IsStoredWithin (spots_of c.args.places.now) after c.args.said.node
    room c.state_places_within.result (spots_of c.state_places_within.new.places)
    c.state_places_within.new.rooms)
    (λ i page. bare page i) (c.state_places_within.ensures.edit room are)

pub returns-in_default-clause-edit : goal.returns-in_default-clause-edit
returns-in_default-clause-edit c room are =
    let mapped : ℕ → Bool = λ p. is_some (page_at c.args.space.now.ranges p) in
    let old = spots_of c.args.places.now in
    let after = stated_beside mapped c.args.resident.now c.args.said.first c.args.said.pages
    c.args.said.node old in
    record {
      ok = tt;
      fits = tt;
      taken = tt;
      lack = memory-short (is_short room old after c.args.said.node) after;
    }

pub returns-clause-edit : goal.returns-clause-edit
returns-clause-edit c room are =
    subst (λ (after : ℕ → Spot). IsStoredWithin (spots_of c.args.places.now) after c.args.said.node
    room c.put_places_within.result (spots_of c.put_places_within.new.places)
    c.put_places_within.new.rooms)
    (λ i page. c.in-Ok.ensures.spots page i) (c.put_places_within.ensures.edit room are)
