-- What the pages of a span are asked once a policy is set, and where they go.
use Rattle.std.proofs.Common.{◌≡◌, ℕ, ◌+◌, ◌-◌, ◌*◌, ◌%◌, ◌<◌, ◌≤◌, ◌^◌, ◌==◌, Bool, true, false}
use Rattle.std.proofs.Common.{Option, Some, None, List, ◌∷◌, refl, sym, ap, ◌∙◌, subst, arith, inl}
use Rattle.std.proofs.Common.{inr}
use Rattle.std.proofs.Common.{is_some}
use Rattle.std.specs.Prelude.{if◌then◌else◌, ◌&&◌, nat_lt, nat_le, MatchOption, Ok, Err}
use Rattle.std.proofs.lemmas.Bool.{cases_Bool, both_ways, eqb-true, le-ltb, leb-false}
use Rattle.numa_machine.specs.Machine.{Hardware}
use Rattle.numa_machine.specs.declared.rules.Rules.{Rules}
use Rattle.numa_machine.specs.declared.rules.Rules.TheVariants.{Document, Linux}
use Rattle.numa_ranges.specs.Runs.{page_at}
use Rattle.numa_space.specs.History.{page_of, page_count}
use Rattle.numa_space.specs.Limited.{Bounds}
use Rattle.numa_space.specs.Lists.{node_list}
use Rattle.numa_machine.specs.declared.page_size.PageSize.TheVariants.{Small}
use Rattle.numa_space.specs.Refusals.{bad_policy_span, cause_in, ends_above, refusal_of, scene_of}
use Rattle.numa_space.specs.Refusals.{first_of as first_refusal, unaligned}
use Rattle.numa_space.specs.Standing.{SpaceState, StandsFor, list_in, place_refusal_in}
use Rattle.numa_requests.specs.declared.command.Command.{Command}
use Rattle.numa_requests.specs.declared.refusal.Refusal.{Refusal}
use Rattle.numa_requests.specs.declared.refusal.Refusal.TheVariants as refusal
use Rattle.numa_space.proofs.Lists.{list-same, mapped-same}
use Rattle.numa_maps.specs.Residents.{Kept}
use Rattle.numa_placed.specs.Astray.{is_astray}
use Rattle.numa_placed.specs.Binds.{Asked, IsBound, asked_of as asked_by, bound_spots}
use Rattle.numa_placed.specs.Binds.{goals as goals_by, list_unless}
use Rattle.numa_placed.specs.Binds.{is_kept, nodes_in, room_before, span_below, strays}
use Rattle.numa_placed.proofs.Shared.{count-le}
use Rattle.numa_placed.specs.Laid.{Laid}
use Rattle.numa_placed.specs.Refusals.{IsRefusal, first_of, span_cause}
use Rattle.numa_placed.specs.Shifts.{AreRooms, room_of}
use Rattle.numa_placed.specs.Spots.{spot_at}
use Rattle.numa_placed.specs.declared.bound.Bound.{Bound}
use Rattle.numa_requests.specs.declared.page_refusal.PlacedRefusal.{PlacedRefusal}
use Rattle.numa_placed.specs.declared.rooms.Rooms.{Rooms}
use Rattle.numa_placed.specs.declared.spot.Spot.{Spot}
use Rattle.numa_page_state.specs.Lying.{Lying, Process}
use Rattle.numa_page_state.specs.Outcomes.{cause_by, is_starved, lack_of, lack_told, rooms_of}
use Rattle.numa_page_state.specs.Sending.{asked_of, command_of, goals_in, held_kept, lacks_room}
use Rattle.numa_page_state.specs.Sending.{flow_between, nodes_of, rooms_sent}
use Rattle.numa_page_state.specs.Sending.{below_end, sent_spots, with_sent}
use Rattle.numa_page_state.specs.Standing.{HasPolicy, HasSent, HaveRoom, Lies, LiesAs, Sends}
use Rattle.numa_page_state.specs.Standing.{asked_for}
use Rattle.numa_page_state.specs.declared.state.PageState.{PageState}
use Rattle.numa_page_state.specs.declared.last.Last.TheVariants as went
use Rattle.numa_page_state.specs.declared.sending.Toucher.{Toucher}
use Rattle.numa_page_state.specs.declared.sending.Rebinding.{Rebinding}
use Rattle.numa_page_state.specs.declared.sending.Sending.{Sending}
use Rattle.numa_page_state.proofs.Judged.{cause-told}

-- ---- the policy

pub refused-some : (first : Option Refusal) (told : Refusal)
    → MatchOption first (told ≡ refusal.NoMemory) (λ cause. told ≡ cause)
    → lacks_room told ≡ false → is_some first ≡ true
refused-some None told is room =
    let odd : true ≡ false = sym (ap lacks_room is) ∙ room in absurd (both_ways true odd refl)
refused-some (Some cause) told is room = refl

-- where nothing refuses a policy its span is one
first-none : (one other : Option Refusal) → first_refusal one other ≡ None → one ≡ None
first-none None other is = refl
first-none (Some cause) other is = is

second-none : (one other : Option Refusal) → first_refusal one other ≡ None → other ≡ None
second-none None other is = is
second-none (Some cause) other is =
    let odd : true ≡ false = ap is_some is in absurd (both_ways true odd refl)

-- what neither rules refuse begins at a page
aligned-start : (start : ℕ) (other : Option Refusal)
    → first_refusal (unaligned Small start) other ≡ None → (start % 4096 == 0) ≡ true
aligned-start start other is =
    elim (cases_Bool (start % 4096 == 0)) [
      | inl t ↦ t
      | inr e ↦
          let odd : true ≡ false = ap is_some (rw e at is) in absurd (both_ways true odd refl)
    ]

aligned-span : (rules : Rules) (start bytes : ℕ) → bad_policy_span rules start bytes ≡ None
    → (start % 4096 == 0) ≡ true
unfolding bad_policy_span
aligned-span Document start bytes is = aligned-start start _ is
aligned-span Linux start bytes is = aligned-start start _ is

-- and the part of it below address 2^47 is a span
below-none : (start bytes : ℕ) → (start % 4096 == 0) ≡ true
    → span_cause (span_below start bytes).0 (span_below start bytes).1 ≡ None
below-none start bytes page =
    elim (cases_Bool (ends_above (2 ^ 47) start bytes)) [
      | inl above ↦ elim (cases_Bool (nat_le (2 ^ 47) start)) [
        | inl far ↦ rw (above, far) refl
        | inr near ↦
            let low : start < 2 ^ 47 = leb-false (2 ^ 47) start near in
            let ends : nat_lt (2 ^ 47) (start + page_count (2 ^ 47 - start) * 4096) ≡ false =
            le-ltb (2 ^ 47) (start + page_count (2 ^ 47 - start) * 4096)
            (omega (arith, low, eqb-true (start % 4096) 0 page)) in
            rw (above, near, page, ends) refl
      ]
      | inr within ↦ rw (within, page, within) refl
    ]

pub free-span : (machine : Hardware) (bounds : Bounds) (history : List Command)
    (said : Rebinding) → refusal_of machine bounds history (command_of said) ≡ None
    → span_cause (below_end said).start (below_end said).length ≡ None
free-span machine bounds history said free =
    let cause = cause_in (scene_of machine bounds history (command_of said)) (command_of said) in
    let none : cause ≡ None = second-none _ cause free in
    below-none said.start said.length (aligned-span machine.rules said.start said.length
    (first-none (bad_policy_span machine.rules said.start said.length) _ none))

-- ---- what pages are asked

nodes-where : (mapped : Bool) (space : SpaceState) (history : List Command) (toucher : Toucher)
    (page : ℕ) → StandsFor space history → is_some (page_at space.ranges page) ≡ mapped
    → list_unless (place_refusal_in space.machine.nodes mapped toucher.cpu)
    (list_in space toucher.task page toucher.cpu)
    ≡ list_unless (place_refusal_in space.machine.nodes mapped toucher.cpu)
    (node_list space.machine history toucher.task page toucher.cpu)
nodes-where true space history toucher page stands is =
    ap (list_unless (place_refusal_in space.machine.nodes true toucher.cpu))
    (list-same space history toucher.task page toucher.cpu stands is)
nodes-where false space history toucher page stands is =
    elim (cases_Bool (nat_le space.machine.nodes toucher.cpu)) [
      | inl t ↦ rw t refl
      | inr e ↦ rw e refl
    ]

pub nodes-same : (space : SpaceState) (history : List Command) (toucher : Toucher) (page : ℕ)
    → StandsFor space history → nodes_in space toucher.task toucher.cpu page
    ≡ nodes_of space.machine history toucher page
nodes-same space history toucher page stands =
    nodes-where (is_some (page_at space.ranges page)) space history toucher page stands refl
    ∙ ap (λ (b : Bool). list_unless (place_refusal_in space.machine.nodes b toucher.cpu)
    (node_list space.machine history toucher.task page toucher.cpu))
    (mapped-same space history page stands)

-- by the space with the policy, and by the commands
pub asked-same : (space : SpaceState) (history : List Command) (kept : Kept) (said : Rebinding)
    (toucher : Toucher) (after : SpaceState) → HasPolicy space history said after
    → asked_for after (below_end said) toucher ≡ asked_of (record {
      machine = space.machine;
      bounds = space.bounds;
      history = history;
      kept = kept;
    }) said toucher
asked-same space history kept said toucher after has =
    let nodes : (page : ℕ) → nodes_in after toucher.task toucher.cpu page
    ≡ nodes_of space.machine (command_of said ∷ history) toucher page =
    λ page. nodes-same after (command_of said ∷ history) toucher page has.stands
    ∙ ap (λ (m : Hardware). nodes_of m (command_of said ∷ history) toucher page) has.machine in
    λ i. record {
      first = page_of (below_end said).start;
      pages = page_count (below_end said).length;
      wants = λ page. is_astray said.spec.mask;
      nodes = λ page. nodes page i;
    }

-- ---- where they go

pub room-sent : (asked : Asked) (spots : ℕ → Spot) (rooms : Option Rooms) (after : Rooms)
    (room : Option (ℕ → ℕ)) → HaveRoom rooms room
    → AreRooms after (room_before asked spots (rooms_of room) (2 ^ 35))
    → HaveRoom (if is_some rooms then Some after else None) (rooms_sent asked spots room)
room-sent asked spots None after None have are = tt
room-sent asked spots None after (Some room) have are = absurd have
room-sent asked spots (Some rooms) after None have are = absurd have
room-sent asked spots (Some rooms) after (Some room) have are = are

module _ (state : PageState) (lying : Lying) (lies : LiesAs state lying) (asked : Asked)
    (kept : Kept) (copy new : Laid) (same : copy ≡ state.placed) where
  alike : spot_at copy ≡ lying.spots
  alike = ap spot_at same ∙ (λ i page. lies.spots page i)

  pub sent-so : (again : Laid) (rooms : Rooms) (kept_rooms : Option Rooms)
      (told : Bound) (held : ℕ) → kept_rooms ≡ (if is_some state.rooms then Some rooms else None)
      → IsBound asked (spot_at copy) (rooms_of lying.room) (spot_at new) rooms told
      → again ≡ new
      → held ≡ held_kept kept asked (goals_in asked lying)
      → HasSent (record {
        placed = new;
        copy = again;
        rooms = kept_rooms;
        moved = told.moved;
        left = told.left + held;
      }) kept asked lying
  sent-so again rooms kept_rooms told held these bound twice counted =
      let is : IsBound asked lying.spots (rooms_of lying.room) (spot_at new) rooms told =
      subst (λ (s : ℕ → Spot). IsBound asked s (rooms_of lying.room) (spot_at new) rooms told)
      alike bound in
      record {
        spots = is.pages;
        copy = twice;
        room = subst (λ (r : Option Rooms). HaveRoom r (rooms_sent asked lying.spots lying.room))
            (sym these)
            (room-sent asked lying.spots state.rooms rooms lying.room lies.room is.room);
        moved = is.moved;
        left = omega (arith, is.left, counted);
      }

  pub sent-refused : (why : PlacedRefusal) (first : Option PlacedRefusal)
      → IsRefusal first (bound_spots asked (spot_at copy) (rooms_of lying.room)) why
      → cause_by (lack_told why) first (sent_spots asked lying) ≡ Some why
  sent-refused why first is =
      cause-told first (sent_spots asked lying) why
      (subst (λ (s : ℕ → Spot). IsRefusal first (bound_spots asked s (rooms_of lying.room)) why)
      alike is)

-- the pages that keep frames find the rooms of the other pages
pub held-same : (state : PageState) (lying : Lying) (kept : Kept) (asked : Asked) (held : ℕ)
    → LiesAs state lying
    → held ≡ held_kept kept asked (goals_by asked (spot_at state.placed) (rooms_of lying.room))
    → held ≡ held_kept kept asked (goals_in asked lying)
held-same state lying kept asked held lies is =
    let all : spot_at state.placed ≡ lying.spots = λ i page. lies.spots page i in
    is ∙ ap (λ (s : ℕ → Spot). held_kept kept asked (goals_by asked s (rooms_of lying.room))) all

-- what stands against the runs, where nothing refuses the policy
pub lack-so : (first : Option PlacedRefusal) (after : ℕ → Spot) (why : PlacedRefusal)
    → first ≡ None → cause_by (lack_told why) first after ≡ Some why
    → lack_of (lack_told why) after ≡ Some why
lack-so first after why none is =
    sym (ap (λ (c : Option PlacedRefusal). first_of c (lack_of (lack_told why) after)) none) ∙ is

module _ (space copy : SpaceState) (history : List Command) (said : Rebinding)
    (same : copy ≡ space) where
  pub has-policy : (after : SpaceState)
      → (refusal_of copy.machine copy.bounds history (command_of said) ≡ None)
      × StandsFor after (command_of said ∷ history)
      → after.machine ≡ copy.machine → HasPolicy space history said after
  has-policy after applied machine = record {
    free = ap (λ (s : SpaceState). refusal_of s.machine s.bounds history (command_of said))
        (sym same) ∙ applied.0;
    stands = applied.1;
    machine = machine ∙ ap (λ (s : SpaceState). s.machine) same;
  }

  pub refused-policy : (told : Refusal)
      → MatchOption (refusal_of copy.machine copy.bounds history (command_of said))
      (told ≡ refusal.NoMemory) (λ cause. told ≡ cause) → lacks_room told ≡ false
      → is_some (refusal_of space.machine space.bounds history (command_of said)) ≡ true
  refused-policy told is room =
      ap (λ (s : SpaceState).
      is_some (refusal_of s.machine s.bounds history (command_of said))) (sym same)
      ∙ refused-some (refusal_of copy.machine copy.bounds history (command_of said)) told is room

-- few pages are bound
pub few-bound : (asked : Asked) (spots : ℕ → Spot) (given rooms : Rooms) (after : ℕ → Spot)
    (told : Bound) → ((room : ℕ → ℕ) → AreRooms given room
    → IsBound asked spots room after rooms told) → told.left ≤ 2 ^ 35
few-bound asked spots given rooms after told is =
    let bound = is (room_of given) (λ node small. refl) in
    let goal = goals_by asked spots (room_of given) in
    omega (
      arith,
      bound.left,
      count-le (λ page. strays asked page (spots page) && is_kept (goal page) (spots page)) 0
          (2 ^ 35),
    )

-- where pages go with a policy, by the space that has it
module _ (space : SpaceState) (history : List Command) (kept : Kept) (said : Rebinding)
    (toucher : Toucher) (after : SpaceState) (has : HasPolicy space history said after)
    (lying : Lying) where
  abbrev here : Process
  here = record {
    machine = space.machine;
    bounds = space.bounds;
    history = history;
    kept = kept;
  }

  same-asked : asked_for after (below_end said) toucher ≡ asked_of here said toucher
  same-asked = asked-same space history kept said toucher after has

  pub sends-ok : (done : Sending) (part : Rebinding) → part ≡ below_end said
      → HasSent done kept (asked_for after part toucher) lying
      → Sends here said toucher lying (Ok (Some done))
  sends-ok done part cut is = (
    has.free,
    subst (λ (a : Asked). HasSent done kept a lying)
        (ap (λ (r : Rebinding). asked_for after r toucher) cut ∙ same-asked) is,
  )

  pub sends-err : (why : PlacedRefusal) (part : Rebinding) → part ≡ below_end said
      → (is_starved (lack_told why) ≡ false
      → cause_by (lack_told why) (span_cause part.start part.length)
      (sent_spots (asked_for after part toucher) lying) ≡ Some why)
      → Sends here said toucher lying (Err why)
  sends-err why part cut is = λ room. (
    has.free,
    lack-so (span_cause part.start part.length) (sent_spots (asked_of here said toucher) lying) why
        (ap (λ (r : Rebinding). span_cause r.start r.length) cut
        ∙ free-span space.machine space.bounds history said has.free)
        (ap (λ (a : Asked). cause_by (lack_told why) (span_cause part.start part.length)
        (sent_spots a lying)) (sym (ap (λ (r : Rebinding). asked_for after r toucher) cut
        ∙ same-asked)) ∙ is room),
  )

-- the pages lie so from then on
pub settles : (state : PageState) (done : Sending) (new : PageState) (lying : Lying) (kept : Kept)
    (asked : Asked) → new ≡ record {
      placed = done.placed;
      rooms = done.rooms;
      follows = state.follows;
      last = went.Pages (record {
        moved = done.moved;
        left = done.left;
        before = state.placed;
        after = done.copy;
      });
      arrived = state.arrived;
    } → LiesAs state lying → HasSent done kept asked lying
    → LiesAs new (with_sent kept asked lying)
settles state done new lying kept asked is lies has =
    let old : spot_at state.placed ≡ lying.spots = λ i page. lies.spots page i in
    let later : spot_at done.copy ≡ sent_spots asked lying =
    ap spot_at has.copy ∙ (λ i page. has.spots page i) in
    subst (λ (b : PageState). LiesAs b (with_sent kept asked lying)) (sym is) (record {
      spots = has.spots;
      room = has.room;
      follows = lies.follows;
      last = record {
        moved = has.moved;
        left = has.left;
        flow = λ from to i. flow_between (old i) (later i) from to;
      };
      arrived = lies.arrived;
    })

pub settled-some : (before : Option PageState) (state : PageState) (done : Sending)
    (new : PageState) (lying : Lying) (kept : Kept) (asked : Asked) → before ≡ Some state
    → new ≡ record {
      placed = done.placed;
      rooms = done.rooms;
      follows = state.follows;
      last = went.Pages (record {
        moved = done.moved;
        left = done.left;
        before = state.placed;
        after = done.copy;
      });
      arrived = state.arrived;
    } → Lies before lying → HasSent done kept asked lying
    → LiesAs new (with_sent kept asked lying)
settled-some before state done new lying kept asked is settled lies has =
    settles state done new lying kept asked settled
    (subst (λ (b : Option PageState). Lies b lying) is lies) has

-- by a list that is that of the policy
pub asked-list : (space : SpaceState) (said : Rebinding) (toucher : Toucher) (list : ℕ)
    → list ≡ said.spec.mask → asked_by space said.start said.length list toucher.task toucher.cpu
    ≡ asked_for space said toucher
asked-list space said toucher list same =
    ap (λ (l : ℕ). asked_by space said.start said.length l toucher.task toucher.cpu) same

pub found-policy : (space : SpaceState) (history : List Command) (said : Rebinding)
    (found : Option SpaceState) (after : SpaceState) → found ≡ Some after
    → MatchOption found
    (is_some (refusal_of space.machine space.bounds history (command_of said)) ≡ true)
    (λ it. HasPolicy space history said it) → HasPolicy space history said after
found-policy space history said found after is has =
    subst (λ (f : Option SpaceState). MatchOption f
    (is_some (refusal_of space.machine space.bounds history (command_of said)) ≡ true)
    (λ it. HasPolicy space history said it)) is has
