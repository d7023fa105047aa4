-- The routes of a replay as what a trace meets.
use Rattle.std.proofs.Common.{◌≡◌, ℕ, List, Result, Ok, Err, inl, map, reverse}
use Rattle.std.specs.Prelude.{MatchResult}
use Rattle.numa_space.specs.Standing.{SpaceState}
use Rattle.numa_plan.specs.Meaning.{PlanData}
use Rattle.numa_traces.specs.Replaying.{IsReplay, Replayed}
use Rattle.numa_traces.specs.Routes.{route_told}
use Rattle.numa_traces.specs.declared.access.Access.{Access}
use Rattle.numa_traces.specs.declared.fault.ReplayError.{ReplayError}
use Rattle.numa_traces.specs.declared.fault.ReplayError.TheVariants as fault
use Rattle.numa_traces.specs.declared.routes.RouteCounts.{RouteCounts}
use Rattle.numaplan_reports.specs.Compared.{IsPlanFor, IsReplayed}

pub routed : {A : Type 0} (items : A → List RouteCounts) (space : SpaceState) (trace : List Access)
    (plan : PlanData) (met : Replayed) (answer : Result A (ℕ × ReplayError)) → IsPlanFor space plan
    → IsReplay space.machine plan (reverse trace) met
    → MatchResult answer (λ routes. items routes ≡ map route_told met.tallies)
    (λ ended. ended.1 ≡ fault.NoMemory)
    → IsReplayed items space trace answer
routed items space trace plan met (Ok routes) stands replay told =
    record { plan = plan; stands = stands; met = met; replay = replay; told = told }
routed items space trace plan met (Err ended) stands replay none = inl none
