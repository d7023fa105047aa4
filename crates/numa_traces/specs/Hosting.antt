-- What a trace meets on a host: each process goes by its own plan, and all take the same frames. A
-- trace is the list of its accesses, each with the number of its process, the newest first.
use Rattle.std.specs.Prelude.{◌≡◌, ◌==◌, ◌&&◌, ◌||◌, ℕ, Option, Some, None, List, [], ◌∷◌}
use Rattle.std.specs.Prelude.{MatchOption, is_some, if◌then◌else◌}
use Rattle.std.specs.BTreeMap.{is_at}
use Rattle.std.specs.Map.{lookup}
use Rattle.std.specs.Ordering.{nat_cmp}
use Rattle.numa_plan.specs.Meaning.{PlanData, place_refusal}
use Rattle.numa_traces.specs.Placing.{Frames}
use Rattle.numa_traces.specs.Replaying.{EndsReplay, Replayed, frames_with_access, is_first}
use Rattle.numa_traces.specs.Replaying.{route_from}
use Rattle.numa_traces.specs.Tallies.{Route, Tallied, is_route, no_accesses, tally_at}
use Rattle.numa_traces.specs.Tallies.{with_accesses}
use Rattle.numa_traces.specs.declared.access.Access.{Access}
use Rattle.numa_traces.specs.declared.fault.ReplayError.{ReplayError}
use Rattle.numa_traces.specs.declared.fault.ReplayError.TheVariants.{NoProcess}
use Rattle.numa_traces.specs.declared.process.ProcessReplay.{ProcessReplay}
use Rattle.numa_traces.specs.declared.tallies.AccessCounts.{AccessCounts}

-- ---- frames

-- each process's placed pages, by its number, and how many frames each node has left for all
pub record HostFrames : Type 0 where
  pub pages : ℕ → List (ℕ × ℕ)
  pub free : List ℕ

-- the frames as a process sees them
abbrev pub seen_by : HostFrames → ℕ → Frames
seen_by host process = record { pages = host.pages process; free = host.free }

-- once a process has placed pages: those of the others lie where they lay
abbrev pub with_frames : HostFrames → ℕ → Frames → HostFrames
with_frames host process frames = record {
  pages = λ other. if process == other then frames.pages else host.pages other;
  free = frames.free;
}

-- the frames once an access of a process has touched its page
abbrev pub with_access : (ℕ → PlanData) → HostFrames → ℕ × Access → HostFrames
with_access plans host it =
    with_frames host it.0 (frames_with_access (plans it.0) (seen_by host it.0) it.1)

-- the frames after a trace
abbrev pub host_frames_after : (ℕ → PlanData) → HostFrames → List (ℕ × Access) → HostFrames
host_frames_after plans start [] = start
host_frames_after plans start (it ∷ trace) =
    with_access plans (host_frames_after plans start trace) it

-- the frames as an access finds them, which follows a trace
abbrev pub frames_before : (ℕ → PlanData) → HostFrames → List (ℕ × Access) → ℕ → Frames
frames_before plans start trace process = seen_by (host_frames_after plans start trace) process

-- ---- routes

-- the accesses of a process in a trace that took a route, and how many of them were faults
abbrev pub host_tally_of : (ℕ → PlanData) → HostFrames → List (ℕ × Access) → ℕ → Route
    → AccessCounts
host_tally_of plans start [] process route = no_accesses
host_tally_of plans start (it ∷ trace) process route =
    if (it.0 == process)
    && is_route (route_from (plans it.0) (frames_before plans start trace it.0) it.1) route
    then with_accesses (host_tally_of plans start trace process route) it.1.count
    (is_first (frames_before plans start trace it.0) it.1)
    else host_tally_of plans start trace process route

-- ---- a replay

-- what each process met, by its number, and how many frames each node has left for all
pub record HostReplayed : Type 0 where
  pub processes : List (ℕ × ProcessReplay)
  pub free : List ℕ

-- what a process met
abbrev pub process_of : List (ℕ × ProcessReplay) → ℕ → Option ProcessReplay
process_of processes process = lookup (is_at (nat_cmp process)) processes

-- of the same processes
abbrev pub AreSameProcesses : List (ℕ × ProcessReplay) → List (ℕ × ProcessReplay) → Type 0
AreSameProcesses old new = (process : ℕ)
    → is_some (process_of new process) ≡ is_some (process_of old process)

-- of one process more, or of the same
abbrev pub HasProcess : ℕ → List (ℕ × ProcessReplay) → List (ℕ × ProcessReplay) → Type 0
HasProcess process old new = (other : ℕ)
    → is_some (process_of new other) ≡ (process == other || is_some (process_of old other))

-- no page is placed, and nodes have so many frames, or so much room
pub record IsFreshHost (room : List ℕ) (host : HostFrames) : Type 0 where
  pub pages : (process : ℕ) → host.pages process ≡ []
  pub free : host.free ≡ room

-- what a process met after a trace
pub record IsPart (plans : ℕ → PlanData) (start : HostFrames) (trace : List (ℕ × Access))
    (process : ℕ) (met : ProcessReplay) : Type 0 where
  pub plan : met.plan ≡ plans process
  pub pages : met.replay.frames.pages ≡ (host_frames_after plans start trace).pages process
  pub tallies : (route : Route) → tally_at met.replay.tallies route
      ≡ host_tally_of plans start trace process route

-- a trace was replayed where nodes had so much room and no page was placed, by these plans of the
-- processes
pub record IsHostReplay (room : List ℕ) (plans : ℕ → PlanData) (trace : List (ℕ × Access))
    (met : HostReplayed) : Type 0 where
  pub start : HostFrames
  pub fresh : IsFreshHost room start
  pub free : met.free ≡ (host_frames_after plans start trace).free
  pub each : (process : ℕ) (one : ProcessReplay) → process_of met.processes process ≡ Some one
      → IsPart plans start trace process one

-- what a process met, with the frames that are left for all
abbrev pub with_free : Replayed → List ℕ → Replayed
with_free met free = record {
  frames = record { pages = met.frames.pages; free = free };
  tallies = met.tallies;
}

-- there is such a process, and its plan doesn't refuse the access
abbrev pub Accepts : HostReplayed → ℕ → Access → Type 0
Accepts met process access = MatchOption (process_of met.processes process) ⊥
    (λ one. place_refusal one.plan access.page access.cpu ≡ None)

-- why an access of a process can't be replayed
abbrev pub EndsHostReplay : HostReplayed → ℕ → Access → ReplayError → Type 0
EndsHostReplay met process access why = MatchOption (process_of met.processes process)
    (why ≡ NoProcess) (λ one. EndsReplay one.plan (with_free one.replay met.free) access why)

-- ---- marks

-- a mark of a host: its text, and of each process how many accesses took which route up to it
pub record HostMarked : Type 0 where
  pub text : List ℕ
  pub processes : List (ℕ × Tallied)

-- what was counted of a process, by what it met
abbrev pub counted_in : ℕ × ProcessReplay → ℕ × Tallied
counted_in it = (it.0, it.1.replay.tallies)

-- what was counted of a process
abbrev pub tallies_of : List (ℕ × Tallied) → ℕ → Option Tallied
tallies_of [] process = None
tallies_of ((other, tallies) ∷ processes) process =
    if other == process then Some tallies else tallies_of processes process

-- one that has this text, and follows these accesses
pub record IsHostMark (room : List ℕ) (plans : ℕ → PlanData) (text : List ℕ)
    (trace : List (ℕ × Access)) (mark : HostMarked) : Type 0 where
  pub says : mark.text ≡ text
  pub start : HostFrames
  pub fresh : IsFreshHost room start
  pub each : (process : ℕ) (tallies : Tallied) → tallies_of mark.processes process ≡ Some tallies
      → (route : Route) → tally_at tallies route ≡ host_tally_of plans start trace process route
