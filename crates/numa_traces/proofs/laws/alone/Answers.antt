use Rattle.std.proofs.Common.{◌≡◌, ◌==◌, ℕ, true, List, [], ◌∷◌, ap, map, refl}
use Rattle.std.specs.Prelude.{if◌then◌else◌}
use Rattle.std.proofs.lemmas.Bool.{eq-eqb}
use Rattle.numa_plan.specs.Meaning.{PlanData}
use Rattle.numa_traces.specs.Hosting.{HostFrames, frames_before, host_tally_of, seen_by}
use Rattle.numa_traces.specs.Placing.{Frames}
use Rattle.numa_traces.specs.Replaying.{frames_after, frames_with_access, is_first, route_from}
use Rattle.numa_traces.specs.Replaying.{tally_of}
use Rattle.numa_traces.specs.Tallies.{Route, is_route, with_accesses}
use Rattle.numa_traces.specs.declared.access.Access.{Access}
use Rattle.numa_traces.proofs.laws.alone.Goals as goal

module _ (plans : ℕ → PlanData) (start : HostFrames) (process : ℕ) where
  self : (process == process) ≡ true
  self = eq-eqb process process refl

  same-frames : (trace : List Access)
      → frames_before plans start (map (λ access. (process, access)) trace) process
      ≡ frames_after (plans process) (seen_by start process) trace
  same-frames [] = refl
  same-frames (access ∷ trace) = rw self (ap
      (λ (frames : Frames). frames_with_access (plans process) frames access) (same-frames trace))

  same-tallies : (trace : List Access) (route : Route)
      → host_tally_of plans start (map (λ access. (process, access)) trace) process route
      ≡ tally_of (plans process) (seen_by start process) trace route
  same-tallies [] route = refl
  same-tallies (access ∷ trace) route = rw self (λ i.
      if is_route (route_from (plans process) (same-frames trace i) access) route
      then with_accesses (same-tallies trace route i) access.count
      (is_first (same-frames trace i) access)
      else same-tallies trace route i)

pub returns-clause-frames : goal.returns-clause-frames
returns-clause-frames c = λ plans start process trace. same-frames plans start process trace

pub returns-clause-tallies : goal.returns-clause-tallies
returns-clause-tallies c =
    λ plans start process trace route. same-tallies plans start process trace route
