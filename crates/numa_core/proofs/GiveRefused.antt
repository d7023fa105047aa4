-- Why a Give is refused, and that nothing changes then.
use Rattle.std.proofs.Common.{◌≡◌, ℕ, ◌<◌, ◌≤◌, ◌==◌, true, false, Option, Some, None, Err, is_some}
use Rattle.std.proofs.Common.{List, length, map, refl, ap, ◌∙◌, arith, slice_get}
use Rattle.std.specs.Option.{option_map_or}
use Rattle.std.proofs.lemmas.List.{length-map}
use Rattle.numa_machine.specs.declared.frame.Frame.{Frame}
use Rattle.numa_requests.specs.declared.event.Event.TheVariants.{Give}
use Rattle.numa_requests.specs.declared.event.CoreRefusal.{CoreRefusal}
use Rattle.numa_requests.specs.declared.event.CoreRefusal.TheVariants.{NoSuchWorker, Busy, NotOwned}
use Rattle.numa_core.specs.declared.seat.OngoingSearch.{OngoingSearch}
use Rattle.numa_core.specs.declared.seat.WorkerSeat.{WorkerSeat}
use Rattle.numa_core.specs.declared.state.State.{State}
use Rattle.numa_core.specs.World.{World, newest_published, frame_search_of, owner_of}
use Rattle.numa_core.specs.Steps.{refusal_of}
use Rattle.numa_core.specs.Standing.{CoreStandsFor, frame_search_of_busy, owner_at, place_in}
use Rattle.numa_core.specs.Standing.{setup_of}
use Rattle.numa_core.specs.Kept.{IsKept, Performs, core_state}
use Rattle.numa_core.specs.Seats.{busy_by, busy_of}
use Rattle.numa_core.proofs.CoreSteps.{its_frame_search, told_owner, no_job}
use Rattle.numa_core.proofs.EventAnswers.{answered}
use Rattle.numa_core.proofs.InARow.{not_le, is_le}

searches : (frames nodes words : List ℕ) (o : Option OngoingSearch) → is_some o ≡ true
    → is_some (frame_search_of_busy frames (busy_by o nodes words)) ≡ true
searches frames nodes words None e = absurd (cc)
searches frames nodes words (Some job) e = refl

module _ (state : State) (w : ℕ) (frame : Frame) (kept : IsKept state) where
  refused : (refusal : CoreRefusal)
      → ((world : World) → CoreStandsFor (core_state state) world
      → refusal_of (setup_of (core_state state)) world (newest_published world) (Give w frame)
      ≡ Some refusal) → Performs state (Give w frame) (Err refusal) state
  refused refusal why = record {
    kept = kept;
    follows = λ world stands. (
      answered (setup_of (core_state state)) world (newest_published world) (Give w frame)
          (Some refusal) (Err refusal) (why world stands) refl,
      stands,
    );
    unchanged = refl;
    setup = refl;
  }

  -- the worker has no seat
  pub no-seat : length state.seats.items ≤ w
      → Performs state (Give w frame) (Err NoSuchWorker) state
  no-seat high = refused NoSuchWorker
      (λ world stands.
      let none : length (map busy_of state.seats.items) ≤ w =
      omega (arith, high, length-map state.seats.items busy_of) in
      rw (is_le (length (map busy_of state.seats.items)) w none) refl)

  module _ (seat : WorkerSeat) (low : w < length state.seats.items)
      (there : slice_get state.seats.items w ≡ Some seat) where
    few : w < length (map busy_of state.seats.items)
    few = omega (arith, low, length-map state.seats.items busy_of)

    -- it is busy
    pub busy : is_some seat.job ≡ true → Performs state (Give w frame) (Err Busy) state
    busy going = refused Busy
        (λ world stands.
        let some : is_some (frame_search_of world w) ≡ true =
        ap is_some (its_frame_search state.space state.plan state.places state.seats.items
        state.owners.items world kept.places stands w seat low there)
        ∙ searches state.places seat.nodes.items seat.met.items seat.job going in
        rw (not_le (length (map busy_of state.seats.items)) w few, some) refl)

    -- the frame isn't its own
    pub not-owned : (owner : Option ℕ) → is_some seat.job ≡ false
        → owner_at state.owners.items (place_in state.places frame.node frame.number) ≡ owner
        → option_map_or (λ v. v == w) owner false ≡ false
        → Performs state (Give w frame) (Err NotOwned) state
    not-owned owner idle at other = refused NotOwned
        (λ world stands.
        let none : frame_search_of world w ≡ None =
        its_frame_search state.space state.plan state.places state.seats.items state.owners.items
        world kept.places stands w seat low there
        ∙ ap (λ o. frame_search_of_busy state.places (busy_by o seat.nodes.items seat.met.items))
        (no_job seat.job idle) in
        let is : owner_of world frame ≡ owner =
        told_owner state.space state.plan state.places state.seats.items state.owners.items world
        kept.places stands frame.node frame.number ∙ at in
        rw (not_le (length (map busy_of state.seats.items)) w few, none, is, other) refl)
