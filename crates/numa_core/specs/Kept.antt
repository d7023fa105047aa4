-- What a core keeps of its tables, and what it shows.
use Rattle.std.specs.Prelude.{◌≡◌, ℕ, ◌≤◌, Some, OnErr, length, vec_len, slice_get, Result}
use Rattle.numa_core.specs.declared.state.State.{State}
use Rattle.numa_core.specs.declared.seat.WorkerSeat.{WorkerSeat}
use Rattle.numa_requests.specs.declared.event.Event.{Event}
use Rattle.numa_requests.specs.declared.event.CoreReply.{CoreReply}
use Rattle.numa_requests.specs.declared.event.CoreRefusal.{CoreRefusal}
use Rattle.numa_core.specs.World.{World, newest_published}
use Rattle.numa_core.specs.Steps.{IsAnswer, world_after}
use Rattle.numa_core.specs.Standing.{CoreState, CoreStandsFor, setup_of, frames_before}
use Rattle.numa_core.specs.Seats.{core_of, SeatFits}
use Rattle.numa_core.specs.Hints.{AreTaken}
use Rattle.numa_core.specs.Published.{IsBehindBy}

abbrev pub core_state : State → CoreState
core_state state = core_of state.space state.plan state.seats.items state.owners.items

-- the table of places is the machine's; each seat has its room and a cursor that stands right;
-- there is an owner's place for each frame; a worker's number has room in a byte; for each node
-- there is a number below which all its frames are owned, and a mark stands at owned frames alone;
-- the published plan follows the space but for the commands that aren't published
pub record IsKept (state : State) : Type 0 where
  pub places : state.places ≡ state.space.machine.frames
  pub seats : (w : ℕ) (seat : WorkerSeat) → slice_get state.seats.items w ≡ Some seat →
      SeatFits state.places seat
  pub owners : vec_len state.owners ≡ frames_before state.places (length state.places)
  pub few : vec_len state.seats ≤ 16
  pub taken : AreTaken state.places state.owners.items state.taken
  pub behind : IsBehindBy state.unpublished state.space state.plan

-- where the old core stands for a world, the event may have the answer there, and the new core
-- stands for the world afterwards
abbrev pub Follows : CoreState → Event → Result CoreReply CoreRefusal → CoreState → Type 0
Follows old event answer new = (world : World) → CoreStandsFor old world →
    IsAnswer (setup_of old) world (newest_published world) event answer
    × CoreStandsFor new (world_after (setup_of old) world (newest_published world) event answer)

-- the core performs an event: it stays in order, answers as the world does and follows it, and
-- where the event is refused nothing changes
pub record Performs (old : State) (event : Event) (answer : Result CoreReply CoreRefusal)
    (new : State) : Type 0 where
  pub kept : IsKept new
  pub follows : Follows (core_state old) event answer (core_state new)
  pub unchanged : OnErr answer (core_state new ≡ core_state old)
  pub setup : setup_of (core_state new) ≡ setup_of (core_state old)
