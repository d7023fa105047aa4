use Rattle.std.proofs.Common.{◌≤◌, ◌++◌, ℕ, Bool, true, false, Option, List, [], ◌∷◌, arith}
use Rattle.std.specs.Prelude.{◌&&◌, ◌==◌, if◌then◌else◌}
use Rattle.numa_plan.specs.Meaning.{PlanData}
use Rattle.numa_traces.specs.Hosting.{HostFrames, frames_before, host_tally_of}
use Rattle.numa_traces.specs.Phases.{AddsUp}
use Rattle.numa_traces.specs.Placing.{Frames}
use Rattle.numa_traces.specs.Replaying.{is_first, route_from}
use Rattle.numa_traces.specs.Resting.{frames_for, tally_over}
use Rattle.numa_traces.specs.Tallies.{Route, is_route, with_accesses}
use Rattle.numa_traces.specs.declared.access.Access.{Access}
use Rattle.numa_traces.specs.declared.tallies.AccessCounts.{AccessCounts}
use Rattle.numa_traces.proofs.laws.phases_add_up.Goals as goal

-- counts that are no smaller
record Grow (before after : AccessCounts) : Type 0 where
  accesses : before.accesses ≤ after.accesses
  faults : before.faults ≤ after.faults

all : (before after : AccessCounts) → Grow before after → AddsUp before after
all before after grow = record {
  accesses = omega (arith, grow.accesses);
  faults = omega (arith, grow.faults);
}

-- accesses more, if they take the route
more : (takes : Bool) (before after : AccessCounts) (count : ℕ) (first : Bool) → Grow before after
    → Grow before (if takes then with_accesses after count first else after)
more true before after count first grow = record {
  accesses = omega (arith, grow.accesses);
  faults = omega (arith, grow.faults);
}
more false before after count first grow = grow

module _ (plan : PlanData) (there : ℕ → Option ℕ) (start : Frames) (trace : List Access)
    (route : Route) where
  grows : (later : List Access) → Grow (tally_over plan there start trace route)
      (tally_over plan there start (later ++ trace) route)
  grows [] = record { accesses = omega (arith); faults = omega (arith) }
  grows (access ∷ later) =
      let frames = frames_for plan there start (later ++ trace) access in
      more (is_route (route_from plan frames access) route)
      (tally_over plan there start trace route)
      (tally_over plan there start (later ++ trace) route) access.count (is_first frames access)
      (grows later)

module _ (plans : ℕ → PlanData) (start : HostFrames) (trace : List (ℕ × Access)) (process : ℕ)
    (route : Route) where
  grows-host : (later : List (ℕ × Access)) → Grow (host_tally_of plans start trace process route)
      (host_tally_of plans start (later ++ trace) process route)
  grows-host [] = record { accesses = omega (arith); faults = omega (arith) }
  grows-host (it ∷ later) =
      let frames = frames_before plans start (later ++ trace) it.0 in
      more ((it.0 == process) && is_route (route_from (plans it.0) frames it.1) route)
      (host_tally_of plans start trace process route)
      (host_tally_of plans start (later ++ trace) process route) it.1.count (is_first frames it.1)
      (grows-host later)

pub returns-clause-one : goal.returns-clause-one
returns-clause-one c = λ plan there start trace later route.
    all (tally_over plan there start trace route)
    (tally_over plan there start (later ++ trace) route)
    (grows plan there start trace route later)

pub returns-clause-host : goal.returns-clause-host
returns-clause-host c = λ plans start trace later process route.
    all (host_tally_of plans start trace process route)
    (host_tally_of plans start (later ++ trace) process route)
    (grows-host plans start trace process route later)
