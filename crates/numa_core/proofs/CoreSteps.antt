-- What a core stands for before and after a step.
use Rattle.std.proofs.Common.{◌≡◌, ◌≢◌, ℕ, ◌+◌, ◌-◌, ◌<◌, ◌≤◌, ◌==◌, ◌||◌, ◌⊎◌, inl, inr}
use Rattle.std.proofs.Common.{Bool, true, false, Option, Some, None, Result, Ok, Err, is_some}
use Rattle.std.proofs.Common.{is_ok, List, [], ◌∷◌, length, drop, refl, sym, ap, subst}
use Rattle.std.proofs.Common.{◌∙◌, arith, set}
use Rattle.std.proofs.Common.{if◌then◌else◌, slice_get, slice_index, OnErr, MatchOption, map}
use Rattle.std.specs.Option.{option_map, option_and_then}
use Rattle.std.specs.List.{list_any}
use Rattle.std.proofs.lemmas.List.{map-set, length-map, length-set}
use Rattle.std.proofs.lemmas.Bool.{eq-eqb, ne_eqb}
use Rattle.std.proofs.lemmas.Bool.Decides.{eqb_tells}
use Rattle.std.proofs.lemmas.Option.{slice_get-map}
use Rattle.numa_requests.specs.declared.command.Command.{Command}
use Rattle.numa_space.specs.Standing.{SpaceState, StandsFor}
use Rattle.numa_space.specs.Refusals.{refusal_of as command_refusal}
use Rattle.numa_plan.specs.Meaning.{PlanData}
use Rattle.numa_compile.specs.Standing.{PlanStandsFor}
use Rattle.numa_machine.specs.Machine.{Hardware}
use Rattle.numa_requests.specs.declared.request.Request.{Request}
use Rattle.numa_machine.specs.declared.frame.Frame.{Frame}
use Rattle.numa_requests.specs.declared.event.Event.{Event}
use Rattle.numa_requests.specs.declared.event.Event.TheVariants.{Accept, Publish, Begin, Seek, Look}
use Rattle.numa_requests.specs.declared.event.Event.TheVariants.{Try, Give}
use Rattle.numa_requests.specs.declared.event.CoreReply.{CoreReply}
use Rattle.numa_requests.specs.declared.event.CoreReply.TheVariants.{Accepted, Published, Given}
use Rattle.numa_requests.specs.declared.event.CoreRefusal.{CoreRefusal}
use Rattle.numa_requests.specs.declared.event.CoreRefusal.TheVariants.{Idle, BadTry}
use Rattle.numa_core.specs.World.{Setup, FrameSearch, Worker, World, opening, newest_published}
use Rattle.numa_core.specs.World.{first_commands, frame_search_of, last_of, owner_of, is_frame}
use Rattle.numa_core.specs.World.{fresh, seeking}
use Rattle.numa_core.specs.Steps.{because, goes_on, going_on, with_worker, with_owner}
use Rattle.numa_core.specs.Steps.{IsAnswer, world_after}
use Rattle.numa_core.specs.Standing.{Busy, CoreState, CoreStandsFor, place_in, place_of}
use Rattle.numa_core.specs.Standing.{owner_at, frame_search_by, setup_of, frames_before}
use Rattle.numa_core.specs.Standing.{frame_search_in, frame_search_of_busy}
use Rattle.numa_core.specs.declared.seat.OngoingSearch.{OngoingSearch}
use Rattle.numa_core.specs.declared.seat.WorkerSeat.{WorkerSeat}
use Rattle.numa_core.specs.Judging.{IsJudged, IsListed}
use Rattle.numa_core.specs.Kept.{Follows}
use Rattle.numa_core.specs.Seats.{core_of, busy_by, busy_of, seat_frame_search, SeatLooks}
use Rattle.numa_core.specs.Seats.{SeatTries}
use Rattle.numa_core.proofs.Elements.{slice_get-set, set_back}
use Rattle.numa_core.proofs.EventAnswers.{answered, look_answer, try_answer, give_answer}
use Rattle.numa_core.proofs.EventAnswers.{begin_answer, begin_frame_search, seek_answer}
use Rattle.numa_core.proofs.Seating.{tries-nowhere}
use Rattle.numa_core.proofs.InARow.{is_at, same_place, place-some}
use Rattle.numa_core.proofs.Versions.{by_itself}
use Rattle.numa_core.proofs.TouchJudged.{version-newest}
use Rattle.numa_core.proofs.Tracking.{first_commands-more}

pub no_job : (o : Option OngoingSearch) → is_some o ≡ false → o ≡ None
no_job None e = refl
no_job (Some job) e = absurd (cc)

-- an owner is written
owner-set : (owners : List (Option ℕ)) (place : ℕ) (x o : Option ℕ) → place < length owners
    → owner_at (set owners place x) o ≡ (if is_at o place then x else owner_at owners o)
owner-set owners place x None low = refl
owner-set owners place x (Some p) low =
    ap (option_and_then (λ o. o)) (slice_get-set owners place x p low) ∙ go (eqb_tells p place)
  where
    go : ((p == place ≡ true) × (p ≡ place)) ⊎ ((p == place ≡ false) × (p ≢ place))
        → option_and_then (λ o. o) (if place == p then Some x else slice_get owners p)
        ≡ (if p == place then x else option_and_then (λ o. o) (slice_get owners p))
    go (inl e) = rw (e.0, eq-eqb place p (sym e.1)) refl
    go (inr e) = rw (e.0, ne_eqb place p (λ same. e.1 (sym same))) refl

-- ---- cores

abbrev setup_with_workers : SpaceState → ℕ → Setup
setup_with_workers space n = record { machine = space.machine; bounds = space.bounds; workers = n }

module _ (space : SpaceState) (plan : PlanData) (seats : List WorkerSeat)
    (owners : List (Option ℕ)) (w : ℕ) where
  -- another seat in a worker's place leaves the setup
  pub setup-set : (seat : WorkerSeat) → setup_of (core_of space plan (set seats w seat) owners)
      ≡ setup_of (core_of space plan seats owners)
  setup-set seat = ap (setup_with_workers space) (length-map (set seats w seat) busy_of
      ∙ length-set seats w seat ∙ sym (length-map seats busy_of))

  -- and the same seat leaves the core
  pub shown-again : (seat later : WorkerSeat) → slice_get seats w ≡ Some seat → later ≡ seat
      → core_of space plan (set seats w later) owners ≡ core_of space plan seats owners
  shown-again seat later there same = ap (λ others. core_of space plan others owners)
      (ap (set seats w) same ∙ set_back seats w seat there)

abbrev pub with_seat : CoreState → ℕ → Option Busy → CoreState
with_seat core w o = record core { workers = set core.workers w o }

abbrev pub with_owners : CoreState → List (Option ℕ) → CoreState
with_owners core owners = record core { owners = owners }

-- what a worker is about shows as this frame search
pub frame_search-same : (machine : Hardware) (frames : List ℕ) (o : Option Busy)
    → frames ≡ machine.frames → frame_search_by machine o ≡ frame_search_of_busy frames o
frame_search-same machine frames None same = refl
frame_search-same machine frames (Some busy) same =
    ap (λ fs. Some (frame_search_in fs busy)) (sym same)

-- the frame search of what stands at a worker's place
abbrev search_at : Hardware → Option (Option Busy) → Option FrameSearch
search_at machine o = frame_search_by machine (option_and_then (λ busy. busy) o)

abbrev worker_with : ℕ → Option FrameSearch → Worker
worker_with last search = record { last = last; frame_search = search }

module _ (core : CoreState) (world : World) (stands : CoreStandsFor core world) where
  -- a worker goes on, or is idle
  pub stands-seat : (w last : ℕ) (o : Option Busy) (search : Option FrameSearch)
      → w < length core.workers → frame_search_by core.space.machine o ≡ search
      → last ≤ newest_published world
      → CoreStandsFor (with_seat core w o) (with_worker world w last search)
  stands-seat w last o search low is not_newer = record {
    space = stands.space;
    plan = stands.plan;
    frame_searches = λ v. ap (search_at core.space.machine) (slice_get-set core.workers w o v low)
        ∙ both v (w == v);
    owners = stands.owners;
    published = stands.published;
    known = stands.known;
    not_newer = λ v. by_itself (λ (worker : Worker). worker.last ≤ newest_published world) w v
        (worker_with last search) (world.worker v) (λ e. not_newer) (stands.not_newer v);
  }
    where
      both : (v : ℕ) (b : Bool)
          → search_at core.space.machine (if b then Some o else slice_get core.workers v)
          ≡ (if b then worker_with last search else world.worker v).frame_search
      both v true = is
      both v false = stands.frame_searches v

  -- a frame gets an owner, or loses it
  pub stands-owner : (frame : Frame) (place : ℕ) (x : Option ℕ)
      → frame.number < slice_index core.space.machine.frames frame.node
      → place ≡ frames_before core.space.machine.frames frame.node + frame.number
      → place < length core.owners
      → CoreStandsFor (with_owners core (set core.owners place x)) (with_owner world frame x)
  stands-owner frame place x here is low = record {
    space = stands.space;
    plan = stands.plan;
    frame_searches = stands.frame_searches;
    owners = λ n k.
        let at : Option ℕ = place_in core.space.machine.frames n k in
        owner-set core.owners place x at low
        ∙ ap (λ p. if is_at at p then x else owner_at core.owners at) is
        ∙ ap (λ b. if b then x else owner_at core.owners at)
        (same_place core.space.machine.frames frame.node frame.number n k here)
        ∙ ap (λ o. if is_frame frame n k then x else o) (stands.owners n k);
    published = stands.published;
    known = stands.known;
    not_newer = stands.not_newer;
  }

  -- a refused event leaves the worker as it was
  pub stands-result : (after : World) (w : ℕ) (old new : Option Busy)
      (result : Result CoreReply CoreRefusal)
      → (is_ok result ≡ true → CoreStandsFor (with_seat core w new) after)
      → OnErr result (new ≡ old) → slice_get core.workers w ≡ Some old
      → CoreStandsFor (with_seat core w new) (if is_ok result then after else world)
  stands-result after w old new (Ok reply) ok err at = ok refl
  stands-result after w old new (Err refusal) ok err at =
      subst (λ ws. CoreStandsFor (record core { workers = ws }) world)
      (sym (ap (set core.workers w) err ∙ set_back core.workers w old at)) stands

-- ---- the steps of a core, by what the code did

pick_first : (b : Bool) (P : World → Type 0) (x y : World) → b ≡ true → P x
    → P (if b then x else y)
pick_first true P x y e h = h
pick_first false P x y e h = absurd (cc)

pick_second : (b : Bool) (P : World → Type 0) (x y : World) → b ≡ false → P y
    → P (if b then x else y)
pick_second false P x y e h = h
pick_second true P x y e h = absurd (cc)

-- a refused Begin changes nothing
pub refused-begin : (core : CoreState) (w : ℕ) (request : Request) (refusal : CoreRefusal)
    → IsJudged core w request (Some refusal) → Follows core (Begin w request) (Err refusal) core
refused-begin core w request refusal judged world stands = (
  answered (setup_of core) world (newest_published world) (Begin w request) (Some refusal)
      (Err refusal) (judged world stands) refl,
  stands,
)

-- the event has the answer in the world, and the new core stands for the world after it
abbrev StepsTo : CoreState → World → Event → Result CoreReply CoreRefusal → CoreState → Type 0
StepsTo old world event answer new =
    IsAnswer (setup_of old) world (newest_published world) event answer
    × CoreStandsFor new (world_after (setup_of old) world (newest_published world) event answer)

module _ (space : SpaceState) (plan : PlanData) (places : List ℕ) (seats : List WorkerSeat)
    (owners : List (Option ℕ)) (world : World) (same : places ≡ space.machine.frames)
    (stands : CoreStandsFor (core_of space plan seats owners) world) where
  abbrev core : CoreState
  core = core_of space plan seats owners

  -- the owners that the table says
  pub told_owner : (n k : ℕ) → world.owner n k ≡ owner_at owners (place_in places n k)
  told_owner n k = sym (stands.owners n k)
      ∙ ap (λ fs. owner_at owners (place_in fs n k)) (sym same)

  module _ (w : ℕ) (old : WorkerSeat) (low : w < length seats)
      (there : slice_get seats w ≡ Some old) where
    few : w < length (map busy_of seats)
    few = let len : length (map busy_of seats) ≡ length seats = length-map seats busy_of in
        omega arith

    shown_there : slice_get (map busy_of seats) w ≡ Some (busy_of old)
    shown_there = slice_get-map busy_of seats w ∙ ap (option_map busy_of) there

    pub its_frame_search : frame_search_of world w ≡ seat_frame_search places old
    its_frame_search = sym (stands.frame_searches w) ∙ ap (search_at space.machine) shown_there
        ∙ frame_search-same space.machine places (busy_of old) same

    -- an idle seat
    idle_frame_search : old.job ≡ None → frame_search_of world w ≡ None
    idle_frame_search idle = its_frame_search
        ∙ ap (λ o. frame_search_of_busy places (busy_by o old.nodes.items old.met.items)) idle

    moved : (new : WorkerSeat) (table : List (Option ℕ)) (after : World)
        → CoreStandsFor (with_seat (with_owners core table) w (busy_of new)) after
        → CoreStandsFor (core_of space plan (set seats w new) table) after
    moved new table after now =
        subst (λ ws. CoreStandsFor (record (with_owners core table) { workers = ws }) after)
        (sym (map-set busy_of seats w new)) now

    seen_err : (new : WorkerSeat) (result : Result CoreReply CoreRefusal)
        → OnErr result (new ≡ old) → OnErr result (busy_of new ≡ busy_of old)
    seen_err new (Ok reply) err = tt
    seen_err new (Err refusal) err = ap busy_of err

    -- the worker goes on as the seat does
    with_new : (new : WorkerSeat) (last : ℕ) (search : Option FrameSearch)
        → seat_frame_search places new ≡ search → last ≤ newest_published world
        → CoreStandsFor (with_seat core w (busy_of new)) (with_worker world w last search)
    with_new new last search is not_newer = stands-seat core world stands w last (busy_of new)
        search few (frame_search-same space.machine places (busy_of new) same ∙ is) not_newer

    -- the world after an event of the worker that is told as the seat has it
    after_result : (new : WorkerSeat) (result : Result CoreReply CoreRefusal) (after : World)
        → OnErr result (new ≡ old)
        → (is_ok result ≡ true → CoreStandsFor (with_seat core w (busy_of new)) after)
        → CoreStandsFor (core_of space plan (set seats w new) owners)
        (if is_ok result then after else world)
    after_result new result after err ok = moved new owners _ (stands-result core world stands after
        w (busy_of old) (busy_of new) result ok (seen_err new result err) shown_there)

    pub look-follows : (word : ℕ) (new : WorkerSeat) (result : Result CoreReply CoreRefusal)
        → OnErr result (new ≡ old)
        → (((n k : ℕ) → world.owner n k ≡ owner_at owners (place_in places n k))
        → SeatLooks places (setup_of core) world word old result new)
        → StepsTo core world (Look w word) result (core_of space plan (set seats w new) owners)
    look-follows word new result err looks =
        let answer = look_answer (setup_of core) world (newest_published world) w result
        (seat_frame_search places new) few word (seat_frame_search places old) its_frame_search
        (looks told_owner) in (
          answer.0,
          after_result new result _ err
              (λ ok. with_new new (last_of world w) _ (answer.1 ok) (stands.not_newer w)),
        )

    pub begin-follows : (request : Request) (row : List ℕ) (version : ℕ) (new : WorkerSeat)
        (reply : CoreReply) → version ≡ plan.version → IsJudged core w request None
        → IsListed core request row
        → ((s : Setup) → places ≡ s.machine.frames
        → reply ≡ goes_on s (fresh (Some request) version row))
        → ((s : Setup) → places ≡ s.machine.frames
        → seat_frame_search places new ≡ going_on s (fresh (Some request) version row))
        → StepsTo core world (Begin w request) (Ok reply)
        (core_of space plan (set seats w new) owners)
    begin-follows request row version new reply is allowed listed answer search =
        let s : Setup = setup_of core in
        let newest : version ≡ newest_published world = is ∙ version-newest core world stands in (
          begin_answer s world (newest_published world) w request row (listed world stands) reply
              (allowed world stands)
              (answer s same ∙ ap (λ v. goes_on s (fresh (Some request) v row)) newest),
          moved new owners _
              (with_new new (newest_published world) _
              (search s same ∙ ap (λ v. going_on s (fresh (Some request) v row)) newest
              ∙ begin_frame_search s world (newest_published world) w request row
              (listed world stands)) (omega arith)),
        )

    pub seek-follows : (node version : ℕ) (new : WorkerSeat) (reply : CoreReply)
        → version ≡ plan.version → old.job ≡ None → slice_index places node == 0 ≡ false
        → ((s : Setup) → places ≡ s.machine.frames → reply ≡ goes_on s (seeking version node))
        → ((s : Setup) → places ≡ s.machine.frames
        → seat_frame_search places new ≡ going_on s (seeking version node))
        → StepsTo core world (Seek w node) (Ok reply)
        (core_of space plan (set seats w new) owners)
    seek-follows node version new reply is idle some answer search =
        let s : Setup = setup_of core in
        let newest : version ≡ newest_published world = is ∙ version-newest core world stands in (
          seek_answer s world (newest_published world) w node reply few (idle_frame_search idle)
              (subst (λ (fs : List ℕ). (slice_index fs node == 0) ≡ false) same some)
              (answer s same ∙ ap (λ v. goes_on s (seeking v node)) newest),
          moved new owners _
              (with_new new (newest_published world) _
              (search s same ∙ ap (λ v. going_on s (seeking v node)) newest) (omega arith)),
        )

    -- the frame's owner is that of its place
    is_owned : (frame : Frame) (place : Option ℕ) (owned : Bool)
        → place_in places frame.node frame.number ≡ place
        → is_some (owner_at owners place) ≡ owned → is_some (owner_of world frame) ≡ owned
    is_owned frame place owned at is =
        ap is_some (told_owner frame.node frame.number ∙ ap (owner_at owners) at) ∙ is

    -- a Try of an owned frame
    pub owned-follows : (frame : Frame) (place : ℕ) (new : WorkerSeat)
        (result : Result CoreReply CoreRefusal)
        → place_in places frame.node frame.number ≡ Some place
        → is_some (owner_at owners (Some place)) ≡ true → OnErr result (new ≡ old)
        → SeatTries places (setup_of core) true frame old result new
        → StepsTo core world (Try w frame) result (core_of space plan (set seats w new) owners)
    owned-follows frame place new result at owned err tries =
        let own = is_owned frame (Some place) true at owned in
        let answer = try_answer (setup_of core) world (newest_published world) w result
        (seat_frame_search places new) few frame true (seat_frame_search places old)
        its_frame_search (λ ok. own) tries in (
          answer.0,
          after_result new result _ err
              (λ ok. pick_first (is_some (owner_of world frame))
              (λ after. CoreStandsFor (with_seat core w (busy_of new)) after) _ _ own
              (with_new new (last_of world w) _ (answer.1 ok) (stands.not_newer w))),
        )

    -- a Try of a free frame that is refused
    pub refused-follows : (frame : Frame) (place : ℕ) (refusal : CoreRefusal) (new : WorkerSeat)
        → place_in places frame.node frame.number ≡ Some place
        → is_some (owner_at owners (Some place)) ≡ false → new ≡ old
        → SeatTries places (setup_of core) false frame old (Err refusal) new
        → StepsTo core world (Try w frame) (Err refusal)
        (core_of space plan (set seats w new) owners)
    refused-follows frame place refusal new at free is tries =
        let own = is_owned frame (Some place) false at free in (
          (try_answer (setup_of core) world (newest_published world) w (Err refusal)
              (seat_frame_search places new) few frame false (seat_frame_search places old)
              its_frame_search (λ ok. own) tries).0,
          after_result new (Err refusal) world is (λ ok. absurd (cc)),
        )

    -- a Try of a frame that the machine lacks
    pub nowhere-follows : (frame : Frame) (refusal : CoreRefusal)
        → place_in places frame.node frame.number ≡ None
        → MatchOption old.job (refusal ≡ Idle) (λ job. refusal ≡ BadTry)
        → IsAnswer (setup_of core) world (newest_published world) (Try w frame) (Err refusal)
    nowhere-follows frame refusal at why =
        (try_answer (setup_of core) world (newest_published world) w (Err refusal)
        (seat_frame_search places old) few frame false (seat_frame_search places old)
        its_frame_search (λ ok. is_owned frame None false at refl)
        (tries-nowhere (setup_of core) places false frame old old refusal same at why)).0

    -- a Try of a free frame that is won
    pub won-follows : (frame : Frame) (place : ℕ) (reply : CoreReply) (new : WorkerSeat)
        → place_in places frame.node frame.number ≡ Some place → place < length owners
        → is_some (owner_at owners (Some place)) ≡ false
        → SeatTries places (setup_of core) false frame old (Ok reply) new
        → StepsTo core world (Try w frame) (Ok reply)
        (core_of space plan (set seats w new) (set owners place (Some w)))
    won-follows frame place reply new at within free tries =
        let own = is_owned frame (Some place) false at free in
        let answer = try_answer (setup_of core) world (newest_published world) w (Ok reply)
        (seat_frame_search places new) few frame false (seat_frame_search places old)
        its_frame_search (λ ok. own) tries in
        let here = place-some space.machine.frames frame.node frame.number place
        (subst (λ fs. place_in fs frame.node frame.number ≡ Some place) same at) in
        let after : CoreState = with_owners core (set owners place (Some w)) in (
          answer.0,
          moved new (set owners place (Some w)) _
              (pick_second (is_some (owner_of world frame))
              (λ now. CoreStandsFor (with_seat after w (busy_of new)) now) _ _ own
              (stands-seat after (with_owner world frame (Some w))
              (stands-owner core world stands frame place (Some w) here.0 here.1 within) w
              (last_of world w) (busy_of new) None few
              (frame_search-same space.machine places (busy_of new) same ∙ answer.1 refl)
              (stands.not_newer w))),
        )

    pub give-follows : (frame : Frame) (place : ℕ) → old.job ≡ None
        → place_in places frame.node frame.number ≡ Some place → place < length owners
        → owner_at owners (Some place) ≡ Some w
        → StepsTo core world (Give w frame) (Ok Given)
        (core_of space plan seats (set owners place None))
    give-follows frame place idle at within owner =
        let here = place-some space.machine.frames frame.node frame.number place
        (subst (λ fs. place_in fs frame.node frame.number ≡ Some place) same at) in (
          give_answer (setup_of core) world (newest_published world) w frame few
              (idle_frame_search idle)
              (told_owner frame.node frame.number ∙ ap (owner_at owners) at ∙ owner),
          stands-owner core world stands frame place None here.0 here.1 within,
        )

-- ---- commands and publications

-- a command that the space accepted
module _ (space after : SpaceState) (plan : PlanData) (seats : List WorkerSeat)
    (owners : List (Option ℕ)) (command : Command) (version : ℕ)
    (done : (history : List Command) → StandsFor space history
    → (command_refusal space.machine space.bounds history command ≡ None)
    × StandsFor after (command ∷ history))
    (machine : after.machine ≡ space.machine) (is : version ≡ after.version) where
  pub accept-follows : Follows (core_of space plan seats owners) (Accept command)
      (Ok (Accepted version)) (core_of after plan seats owners)
  accept-follows world stands =
      let newest : ℕ = newest_published world in
      let history : List Command = command ∷ world.history in
      let now : StandsFor after history = (done world.history stands.space).1 in (
        answered (setup_of (core_of space plan seats owners)) world newest (Accept command) None
            (Ok (Accepted version)) (ap because (done world.history stands.space).0)
            (ap (λ v. Ok (Accepted v)) (let count : after.version ≡ length history = now.version in
            is ∙ count ∙ omega arith)),
        record {
          space = now;
          plan = subst (λ m. PlanStandsFor m plan (first_commands newest history)) (sym machine)
              (subst (λ h. PlanStandsFor space.machine plan h)
              (sym (first_commands-more newest command world.history stands.known)) stands.plan);
          frame_searches = subst (λ m. (w : ℕ)
              → search_at m (slice_get (map busy_of seats) w) ≡ frame_search_of world w)
              (sym machine) stands.frame_searches;
          owners = subst (λ m. (n k : ℕ) → owner_at owners (place_of m n k) ≡ world.owner n k)
              (sym machine) stands.owners;
          published = stands.published;
          known = let low : newest ≤ length world.history = stands.known in omega arith;
          not_newer = stands.not_newer;
        },
      )

drop_none : (history : List Command) → first_commands (length history) history ≡ history
drop_none history = let none : length history - length history ≡ 0 = omega arith in
    ap (λ n. drop n history) none

-- where as many commands are published as accepted, the published plan is that of all
pub published-all : (space : SpaceState) (plan : PlanData) (seats : List WorkerSeat)
    (owners : List (Option ℕ)) (world : World)
    → CoreStandsFor (core_of space plan seats owners) world → plan.version ≡ space.version
    → PlanStandsFor space.machine plan world.history
published-all space plan seats owners world stands same =
    let all : newest_published world ≡ length world.history =
    sym (version-newest (core_of space plan seats owners) world stands) ∙ same
    ∙ stands.space.version in
    subst (λ h. PlanStandsFor space.machine plan h)
    (ap (λ n. first_commands n world.history) all ∙ drop_none world.history) stands.plan

pub publish-follows : (space : SpaceState) (old plan : PlanData) (seats : List WorkerSeat)
    (owners : List (Option ℕ)) (world : World) (version : ℕ)
    → CoreStandsFor (core_of space old seats owners) world
    → PlanStandsFor space.machine plan world.history → version ≡ plan.version
    → StepsTo (core_of space old seats owners) world Publish (Ok (Published version))
    (core_of space plan seats owners)
publish-follows space old plan seats owners world version stands now is = (
  answered (setup_of (core_of space old seats owners)) world (newest_published world) Publish None
      (Ok (Published version)) refl (ap (λ v. Ok (Published v)) (is ∙ now.version)),
  record {
    space = stands.space;
    plan = subst (λ h. PlanStandsFor space.machine plan h) (sym (drop_none world.history)) now;
    frame_searches = stands.frame_searches;
    owners = stands.owners;
    published = ap (λ b. b || list_any (λ v. v == length world.history) world.published)
        (eq-eqb (length world.history) (length world.history) refl);
    known = omega arith;
    not_newer = λ w.
        let low : last_of world w ≤ newest_published world = stands.not_newer w in
        let known : newest_published world ≤ length world.history = stands.known in omega arith;
  },
)

-- ---- a new core

pub opened : (space : SpaceState) (plan : PlanData) (seats : List WorkerSeat)
    (owners : List (Option ℕ)) → StandsFor space [] → PlanStandsFor space.machine plan []
    → ((w : ℕ) (seat : WorkerSeat) → slice_get seats w ≡ Some seat → seat.job ≡ None)
    → ((p : ℕ) → owner_at owners (Some p) ≡ None) → CoreStandsFor (core_of space plan seats owners)
    opening
opened space plan seats owners stands now idle free = record {
  space = stands;
  plan = now;
  frame_searches = λ w. ap (search_at space.machine) (slice_get-map busy_of seats w)
      ∙ go w (slice_get seats w) refl;
  owners = λ n k. none (place_of space.machine n k);
  published = refl;
  known = omega arith;
  not_newer = λ w. omega arith;
}
  where
    none : (o : Option ℕ) → owner_at owners o ≡ None
    none None = refl
    none (Some p) = free p

    go : (w : ℕ) (o : Option WorkerSeat) → slice_get seats w ≡ o
        → search_at space.machine (option_map busy_of o) ≡ None
    go w None is = refl
    go w (Some seat) is =
        ap (λ j. frame_search_by space.machine (busy_by j seat.nodes.items seat.met.items))
        (idle w seat is)
