use Rattle.std.proofs.Common.{is_some, refl, subst}
use Rattle.numa_ranges.specs.Runs.{page_at}
use Rattle.numa_space.specs.History.{page_of, page_count}
use Rattle.numa_placed.specs.Laid.{Laid}
use Rattle.numa_placed.specs.Refusals.{state_cause}
use Rattle.numa_placed.specs.Shifts.{AreRooms, is_short, room_of, rooms_between}
use Rattle.numa_placed.specs.Spots.{spot_at, stated_beside}
use Rattle.numa_placed.specs.Turns.{spots_of}
use Rattle.numa_placed.proofs.Fits.{not-short, short-refusal, told-of}
use Rattle.numa_placed.proofs.placed.Placed.state_within.Goals as goal

-- ---- no page

pub returns-then-said-eq0-clause-fits : goal.returns-then-said-eq0-clause-fits
returns-then-said-eq0-clause-fits c room are = not-short room (spot_at c.args.self.now) c.args.node

pub returns-then-said-eq0-clause-taken : goal.returns-then-said-eq0-clause-taken
returns-then-said-eq0-clause-taken c room are =
    subst (λ (laid : Laid). AreRooms c.keep_all_rooms.new.rooms
    (rooms_between room (spot_at laid) (spot_at laid))) c.self.view_is
    (c.keep_all_rooms.ensures room are)

-- ---- the edit

pub returns-clause-ok : goal.returns-clause-ok
returns-clause-ok c =
    let span = c.in_ok-said.ensures.span in
    let told = told-of (λ p. is_some (page_at c.args.space.now.ranges p)) c.args.resident.now
    (room_of c.args.rooms.now) c.state_others_within.result
    (spots_of c.state_others_within.new.places) c.state_others_within.new.rooms
    (spots_of c.self.inside.places) (spot_at c.args.self.now) _
    (page_of c.args.start) _ (page_count c.args.length) _ c.args.node
    (λ i. spot_at (c.self.view_is i)) span.1 span.2 span.3
    (c.state_others_within.ensures.edit (room_of c.args.rooms.now) (λ node small. refl)) in
    told.ok

pub returns-clause-fits : goal.returns-clause-fits
returns-clause-fits c room are =
    let span = c.in_ok-said.ensures.span in
    let told = told-of (λ p. is_some (page_at c.args.space.now.ranges p)) c.args.resident.now
    room c.state_others_within.result (spots_of c.state_others_within.new.places)
    c.state_others_within.new.rooms (spots_of c.self.inside.places) (spot_at c.args.self.now) _
    (page_of c.args.start) _ (page_count c.args.length) _ c.args.node
    (λ i. spot_at (c.self.view_is i)) span.1 span.2 span.3
    (c.state_others_within.ensures.edit room are) in
    told.fits

pub returns-clause-taken : goal.returns-clause-taken
returns-clause-taken c room are =
    let span = c.in_ok-said.ensures.span in
    let told = told-of (λ p. is_some (page_at c.args.space.now.ranges p)) c.args.resident.now
    room c.state_others_within.result (spots_of c.state_others_within.new.places)
    c.state_others_within.new.rooms (spots_of c.self.inside.places) (spot_at c.args.self.now) _
    (page_of c.args.start) _ (page_count c.args.length) _ c.args.node
    (λ i. spot_at (c.self.view_is i)) span.1 span.2 span.3
    (c.state_others_within.ensures.edit room are) in
    told.taken

pub returns-clause-err : goal.returns-clause-err
returns-clause-err c room are =
    let span = c.in_ok-said.ensures.span in
    let told = told-of (λ p. is_some (page_at c.args.space.now.ranges p)) c.args.resident.now
    room c.state_others_within.result (spots_of c.state_others_within.new.places)
    c.state_others_within.new.rooms (spots_of c.self.inside.places) (spot_at c.args.self.now) _
    (page_of c.args.start) _ (page_count c.args.length) _ c.args.node
    (λ i. spot_at (c.self.view_is i)) span.1 span.2 span.3
    (c.state_others_within.ensures.edit room are) in
    let after = stated_beside (λ p. is_some (page_at c.args.space.now.ranges p))
    c.args.resident.now (page_of c.args.start) (page_count c.args.length) c.args.node
    (spot_at c.args.self.now) in
    short-refusal (state_cause c.args.space.now.machine c.args.start c.args.length c.args.node)
    (is_short room (spot_at c.args.self.now) after c.args.node) after c.state_others_within.result
    span.0 told.lack
