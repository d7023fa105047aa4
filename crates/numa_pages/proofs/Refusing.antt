-- A core doesn't accept a command that something stands against.
use Rattle.std.proofs.Common.{◌≡◌, ℕ, true, false, Option, Some, None, List, Ok, inl, inr}
use Rattle.std.proofs.Common.{refl, ap, is_some}
use Rattle.std.proofs.lemmas.Bool.{both_ways}
use Rattle.std.specs.Prelude.{Result, is_ok}
use Rattle.numa_core.specs.Executions.{world_of}
use Rattle.numa_core.specs.Standing.{CoreStandsFor, HasPast, setup_of}
use Rattle.numa_core.specs.Steps.{IsAnswer, because, refused_or}
use Rattle.numa_core.specs.World.{World, newest_published}
use Rattle.numa_placed.specs.Shifts.{room_of}
use Rattle.numa_placed.specs.Spots.{spot_at}
use Rattle.numa_placed.specs.declared.rooms.Rooms.{Rooms}
use Rattle.numa_requests.specs.declared.command.Command.{Command}
use Rattle.numa_requests.specs.declared.event.CoreRefusal.{CoreRefusal}
use Rattle.numa_requests.specs.declared.event.CoreReply.{CoreReply}
use Rattle.numa_requests.specs.declared.event.CoreReply.TheVariants.{Accepted}
use Rattle.numa_requests.specs.declared.event.Event.TheVariants.{Accept}
use Rattle.numa_requests.specs.declared.refusal.Refusal.{Refusal}
use Rattle.numa_space.specs.Refusals.{refusal_of}
use Rattle.numa_space.specs.Standing.{StandsFor}
use Rattle.numa_page_state.specs.Lying.{LastMove, Lying, OfNodes, OfPages}
use Rattle.numa_page_state.specs.Standing.{HaveRoom, LastAs, LiesAs, arrived_in, sent_by}
use Rattle.numa_page_state.specs.Standing.{told_in}
use Rattle.numa_page_state.specs.declared.last.Last.{Last}
use Rattle.numa_page_state.specs.declared.last.Last.TheVariants as went
use Rattle.numa_page_state.specs.declared.state.PageState.{PageState}
use Rattle.numa_pages.specs.Changes.{PagesState}

-- ---- pages lie somehow

abbrev pub room_in : Option Rooms → Option (ℕ → ℕ)
room_in None = None
room_in (Some rooms) = Some (room_of rooms)

pub room-said : (rooms : Option Rooms) → is_some (room_in rooms) ≡ is_some rooms
room-said None = refl
room-said (Some rooms) = refl

have-room : (rooms : Option Rooms) → HaveRoom rooms (room_in rooms)
have-room None = tt
have-room (Some rooms) = λ node small. refl

abbrev last_in : Last → LastMove
last_in (went.Nodes moved) = OfNodes (told_in moved)
last_in (went.Pages done) = OfPages (sent_by done)

last-as : (last : Last) → LastAs last (last_in last)
last-as (went.Nodes moved) = record {
  moved = refl;
  left = refl;
  from = λ node small. refl;
  to = λ node small. refl;
}
last-as (went.Pages done) = record { moved = refl; left = refl; flow = λ from to. refl }

abbrev pub lying_in : PageState → Lying
lying_in state = record {
  begun = true;
  spots = spot_at state.placed;
  room = room_in state.rooms;
  follows = state.follows;
  last = last_in state.last;
  arrived = arrived_in state.arrived;
}

pub lies-so : (state : PageState) → LiesAs state (lying_in state)
lies-so state = record {
  spots = λ page. refl;
  room = have-room state.rooms;
  follows = refl;
  last = last-as state.last;
  arrived = record { placed = refl; exhausted = refl; on = λ node small. refl };
}

-- ---- no command is accepted that something stands against

abbrev so : CoreReply → Result CoreReply CoreRefusal
so reply = Ok reply

told-off : (first : Option Refusal) (reply done : CoreReply) → is_some first ≡ true
    → so reply ≡ refused_or (because first) done → ⊥
told-off None reply done some is = absurd (both_ways false refl some)
told-off (Some refusal) reply done some is =
    let odd : true ≡ false = ap is_ok is in absurd (both_ways true odd refl)

-- something stands against a command
abbrev pub Stands : PagesState → Command → Type 0
Stands pages command = (history : List Command) (lying : Lying)
    → StandsFor pages.core.space history → LiesAs pages.state lying
    → is_some (refusal_of pages.core.space.machine pages.core.space.bounds history command) ≡ true

pub not-accepted : (pages : PagesState) (command : Command) (version : ℕ) → HasPast pages.core
    → Stands pages command
    → ((world : World) → CoreStandsFor pages.core world
    → IsAnswer (setup_of pages.core) world (newest_published world) (Accept command)
    (Ok (Accepted version))) → ⊥
not-accepted pages command version past stands answers =
    let world = world_of (setup_of pages.core) past.past in
    let of = past.leads.stands in
    let some = stands world.history (lying_in pages.state) of.space (lies-so pages.state) in
    elim (answers world of) [
      | inl is ↦ told-off (refusal_of pages.core.space.machine pages.core.space.bounds
          world.history command) (Accepted version) _ some is
      | inr lack ↦
          let odd : true ≡ false = ap is_ok lack.1.0 in absurd (both_ways true odd refl)
    ]
