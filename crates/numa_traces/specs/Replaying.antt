-- What a trace meets on a machine, by a plan. A trace is the list of its accesses, the newest
-- first.
use Rattle.std.specs.Prelude.{◌≡◌, ℕ, ◌<◌, Bool, not, is_some, Some, None, List, [], ◌∷◌}
use Rattle.std.specs.Prelude.{slice_index, unwrap_or, if◌then◌else◌}
use Rattle.numa_machine.specs.Machine.{Hardware, frames_of}
use Rattle.numa_plan.specs.Meaning.{PlanData, place_refusal, planned_list}
use Rattle.numa_traces.specs.Placing.{Frames, node_of, frames_with_page}
use Rattle.numa_traces.specs.Tallies.{Counts, IsFull, Tallied, Route, is_route, no_accesses}
use Rattle.numa_traces.specs.Tallies.{tally_at, with_accesses}
use Rattle.numa_traces.specs.declared.access.Access.{Access}
use Rattle.numa_traces.specs.declared.fault.ReplayError.{ReplayError}
use Rattle.numa_traces.specs.declared.fault.ReplayError.TheVariants.{Refused, TooMany, NoMemory}
use Rattle.numa_traces.specs.declared.tallies.AccessCounts.{AccessCounts}

-- no page is placed, and every frame is free
pub record IsFresh (machine : Hardware) (frames : Frames) : Type 0 where
  pub pages : frames.pages ≡ []
  pub free : (node : ℕ) → node < machine.nodes
      → slice_index frames.free node ≡ frames_of machine node

-- the frames once an access has touched its page, whose list is the plan's
abbrev pub frames_with_access : PlanData → Frames → Access → Frames
frames_with_access plan frames access = frames_with_page frames access.page
    (unwrap_or (planned_list plan access.task access.page access.cpu) [])

-- the frames after a trace
abbrev pub frames_after : PlanData → Frames → List Access → Frames
frames_after plan start [] = start
frames_after plan start (access ∷ trace) =
    frames_with_access plan (frames_after plan start trace) access

-- whether an access is a fault: its page isn't placed
abbrev pub is_first : Frames → Access → Bool
is_first frames access = not (is_some (node_of frames.pages access.page))

-- the route of an access: to the node on which its page lies once it is touched
abbrev pub route_from : PlanData → Frames → Access → Route
route_from plan frames access = (
  access.task,
  access.cpu,
  node_of (frames_with_access plan frames access).pages access.page,
)

-- the same after a trace
abbrev pub is_fault : PlanData → Frames → List Access → Access → Bool
is_fault plan start trace access = is_first (frames_after plan start trace) access

abbrev pub route_of : PlanData → Frames → List Access → Access → Route
route_of plan start trace access = route_from plan (frames_after plan start trace) access

-- the accesses of a trace that took a route, and how many of them were faults
abbrev pub tally_of : PlanData → Frames → List Access → Route → AccessCounts
tally_of plan start [] route = no_accesses
tally_of plan start (access ∷ trace) route =
    if is_route (route_of plan start trace access) route
    then with_accesses (tally_of plan start trace route) access.count
    (is_fault plan start trace access)
    else tally_of plan start trace route

-- the frames, and how many accesses took which route
pub record Replayed : Type 0 where
  pub frames : Frames
  pub tallies : Tallied

-- an access was replayed: its page is touched, and it is counted for its route
pub record IsNext (plan : PlanData) (access : Access) (old new : Replayed) : Type 0 where
  pub frames : new.frames ≡ frames_with_access plan old.frames access
  pub tallies : Counts old.tallies (route_from plan old.frames access) access.count
      (is_first old.frames access) new.tallies

-- a trace was replayed from a fresh machine
pub record IsReplay (machine : Hardware) (plan : PlanData) (trace : List Access) (met : Replayed)
    : Type 0 where
  pub start : Frames
  pub fresh : IsFresh machine start
  pub frames : met.frames ≡ frames_after plan start trace
  pub tallies : (route : Route) → tally_at met.tallies route ≡ tally_of plan start trace route

-- why an access that was read can't be replayed: the plan refuses it, for this cause; else a number
-- of its route would pass 2^64 - 1, or there was no memory
abbrev pub EndsReplay : PlanData → Replayed → Access → ReplayError → Type 0
EndsReplay plan met access (Refused refusal) =
    place_refusal plan access.page access.cpu ≡ Some refusal
EndsReplay plan met access TooMany = (place_refusal plan access.page access.cpu ≡ None)
    × IsFull met.tallies (route_from plan met.frames access) access.count
    (is_first met.frames access)
EndsReplay plan met access NoMemory = place_refusal plan access.page access.cpu ≡ None
EndsReplay plan met access _ = ⊥
