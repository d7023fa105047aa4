-- What a worker's seat shows, and what its cursor means.
use Rattle.std.specs.Prelude.{◌≡◌, ℕ, ◌*◌, ◌<◌, ◌≤◌, Bool, true, false, Option}
use Rattle.std.specs.Prelude.{Some, None, Result, Ok, Err, List, length, vec_len}
use Rattle.std.specs.Prelude.{slice_index, MatchOption, MatchBool, map}
use Rattle.numa_machine.specs.declared.frame.Frame.{Frame}
use Rattle.numa_requests.specs.declared.event.CoreReply.{CoreReply}
use Rattle.numa_requests.specs.declared.event.CoreRefusal.{CoreRefusal}
use Rattle.numa_requests.specs.declared.event.CoreRefusal.TheVariants.{Idle, BadTry}
use Rattle.numa_core.specs.declared.seat.OngoingSearch.{OngoingSearch}
use Rattle.numa_core.specs.declared.seat.WorkerSeat.{WorkerSeat}
use Rattle.numa_core.specs.World.{Setup, FrameSearch, World, may_look, may_try}
use Rattle.numa_core.specs.World.{frame_search_after_look, frame_search_past}
use Rattle.numa_core.specs.Steps.{goes_on, going_on, won_by}
use Rattle.numa_space.specs.Standing.{SpaceState}
use Rattle.numa_plan.specs.Meaning.{PlanData}
use Rattle.numa_core.specs.Standing.{Busy, CoreState, frames_before, met_at, frame_search_of_busy}

-- ---- the cursor

-- the first nodes of the list are met with all their frames, as many nodes as the rank says, and so
-- are the first frames of the next node
pub record IsPassed (frames nodes words : List ℕ) (rank next : ℕ) : Type 0 where
  pub earlier : (i k : ℕ) → i < rank → k < slice_index frames (slice_index nodes i) →
      met_at frames words (slice_index nodes i) k ≡ true
  pub lower : (k : ℕ) → k < next → k < slice_index frames (slice_index nodes rank) →
      met_at frames words (slice_index nodes rank) k ≡ true

-- the cursor is the lowest unmet frame of the first listed node with one
pub record IsCursor (frames nodes words : List ℕ) (rank next : ℕ) : Type 0 where
  pub passed : IsPassed frames nodes words rank next
  pub listed : rank < length nodes
  pub within : next < slice_index frames (slice_index nodes rank)
  pub unmet : met_at frames words (slice_index nodes rank) next ≡ false

-- each frame of each listed node is met
abbrev pub IsAllMet : List ℕ → List ℕ → List ℕ → Type 0
IsAllMet frames nodes words = (i k : ℕ) → i < length nodes →
    k < slice_index frames (slice_index nodes i) →
    met_at frames words (slice_index nodes i) k ≡ true

-- ---- seats

-- what a worker is about that has this job, list and words
abbrev pub busy_at : OngoingSearch → List ℕ → List ℕ → Busy
busy_at job nodes words = record {
  request = job.request;
  version = job.version;
  nodes = nodes;
  met = words;
}

abbrev pub busy_by : Option OngoingSearch → List ℕ → List ℕ → Option Busy
busy_by None nodes words = None
busy_by (Some job) nodes words = Some (busy_at job nodes words)

-- what the seat's worker is about
abbrev pub busy_of : WorkerSeat → Option Busy
busy_of seat = busy_by seat.job seat.nodes.items seat.met.items

-- the core with this space, this plan, these seats and these owners
abbrev pub core_of : SpaceState → PlanData → List WorkerSeat → List (Option ℕ) → CoreState
core_of space plan seats owners = record {
  space = space;
  plan = plan;
  workers = map busy_of seats;
  owners = owners;
}

-- the frame search of its worker
abbrev pub seat_frame_search : List ℕ → WorkerSeat → Option FrameSearch
seat_frame_search frames seat = frame_search_of_busy frames (busy_of seat)

-- the cursor of a search is right
abbrev pub JobStands : List ℕ → Option OngoingSearch → List ℕ → List ℕ → Type 0
JobStands frames None nodes words = Unit {0}
JobStands frames (Some job) nodes words = IsCursor frames nodes words job.at.rank job.at.next

-- there is a bit for each frame
abbrev pub HasRoom : List ℕ → ℕ → Type 0
HasRoom frames words = frames_before frames (length frames) ≤ 64 * words

-- the seat has room for these frames, and while its worker is busy the cursor is right
pub record SeatFits (frames : List ℕ) (seat : WorkerSeat) : Type 0 where
  pub room : HasRoom frames (vec_len seat.met)
  pub cursor : JobStands frames seat.job seat.nodes.items seat.met.items

-- another seat whose worker is about the same, and that fits where the seat does
pub record IsSeatCopy (seat copy : WorkerSeat) : Type 0 where
  pub busy : busy_of copy ≡ busy_of seat
  pub fits : (frames : List ℕ) → SeatFits frames seat → SeatFits frames copy

-- what the seat answers to a Look, and its frame search afterwards
abbrev pub SeatLooks : List ℕ → Setup → World → ℕ → WorkerSeat →
    Result CoreReply CoreRefusal → WorkerSeat → Type 0
SeatLooks frames s world word old result new =
    MatchOption (seat_frame_search frames old) (result ≡ Err Idle) (λ frame_search.
    MatchBool (may_look s frame_search word)
    ((result ≡ Ok (goes_on s (frame_search_after_look s world word frame_search)))
    × (seat_frame_search frames new
    ≡ going_on s (frame_search_after_look s world word frame_search)))
    (result ≡ Err BadTry))

-- what the seat answers to a Try of a frame that is owned or not, and its frame search afterwards
abbrev pub SeatTries : List ℕ → Setup → Bool → Frame → WorkerSeat →
    Result CoreReply CoreRefusal → WorkerSeat → Type 0
SeatTries frames s owned frame old result new =
    MatchOption (seat_frame_search frames old) (result ≡ Err Idle) (λ frame_search.
    MatchBool (may_try s frame_search frame)
    (MatchBool owned
    ((result ≡ Ok (goes_on s (frame_search_past frame frame_search)))
    × (seat_frame_search frames new ≡ going_on s (frame_search_past frame frame_search)))
    ((result ≡ Ok (won_by s frame_search frame))
    × (seat_frame_search frames new ≡ None)))
    (result ≡ Err BadTry))
