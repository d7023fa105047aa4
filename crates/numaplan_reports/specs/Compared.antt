-- What handles of two cores answer to questions for reports, and what a trace meets on a core.
use Rattle.std.specs.Prelude.{◌≡◌, ◌⊎◌, ℕ, List, Option, Some, None, Result, MatchOption}
use Rattle.std.specs.Prelude.{MatchResult, map, reverse}
use Rattle.numa_core.specs.Standing.{CoreState}
use Rattle.numa_compile.specs.Standing.{PlanStandsFor}
use Rattle.numa_plan.specs.Meaning.{PlanData}
use Rattle.numa_reports.specs.Differences.{AreAllMoves, EitherLacks}
use Rattle.numa_reports.specs.Failing.{FailsBy}
use Rattle.numa_reports.specs.Mapped.{span_of}
use Rattle.numa_reports.specs.declared.differences.SpanMove.{SpanMove}
use Rattle.numa_reports.specs.declared.fault.ReportError.{ReportError}
use Rattle.numa_space.specs.Standing.{SpaceState, StandsFor}
use Rattle.numa_requests.specs.declared.command.Command.{Command}
use Rattle.numa_traces.specs.Replaying.{IsReplay, Replayed}
use Rattle.numa_traces.specs.Routes.{route_told}
use Rattle.numa_traces.specs.Whole.{EndsTrace}
use Rattle.numa_traces.specs.declared.access.Access.{Access}
use Rattle.numa_traces.specs.declared.fault.ReplayError.{ReplayError}
use Rattle.numa_traces.specs.declared.fault.ReplayError.TheVariants as fault
use Rattle.numa_traces.specs.declared.routes.RouteCounts.{RouteCounts}

-- a question about two handles leaves what they keep as it was; if one is closed, there is no
-- answer
abbrev pub AsksBoth : {K A : Type 0} → (A → Type 0) → Option K → Option K → Option A → Option K
    → Option K → Type 0
AsksBoth told one other answer one_then other_then = (one_then ≡ one) × (other_then ≡ other)
    × (one ≡ None → answer ≡ None) × (other ≡ None → answer ≡ None)
    × MatchOption answer ((one ≡ None) ⊎ (other ≡ None)) told

-- the pages that would go to another node in the one space than in the other, as the items of an
-- answer; else a machine lacks the node, or there was no memory
abbrev pub IsCompared : {A : Type 0} → (A → List SpanMove) → SpaceState → SpaceState → ℕ → ℕ
    → Result A ReportError → Type 0
IsCompared items before after task cpu answer = (history later : List Command)
    → StandsFor before history → StandsFor after later → MatchResult answer
    (λ moves. AreAllMoves before.machine history after.machine later task cpu
    (map span_of before.ranges) (map span_of after.ranges) (items moves))
    (FailsBy (EitherLacks before.machine.nodes after.machine.nodes cpu))

-- the same of the cores that are kept
abbrev pub Differs : {A : Type 0} → (A → List SpanMove) → Option CoreState → Option CoreState
    → ℕ → ℕ → Result A ReportError → Type 0
Differs items before after task cpu answer = (one other : CoreState) → before ≡ Some one
    → after ≡ Some other → IsCompared items one.space other.space task cpu answer

-- a plan of the space's history
abbrev pub IsPlanFor : SpaceState → PlanData → Type 0
IsPlanFor space plan = (history : List Command) → StandsFor space history
    → PlanStandsFor space.machine plan history

-- the routes of a trace's accesses on the space's machine, by the plan of its commands
pub record RoutesOf (space : SpaceState) (trace : List Access) (routes : List RouteCounts) : Type 0
  where
    pub plan : PlanData
    pub stands : IsPlanFor space plan
    pub met : Replayed
    pub replay : IsReplay space.machine plan (reverse trace) met
    pub told : routes ≡ map route_told met.tallies

-- why the access at a place can't be replayed so, or there was no memory
abbrev pub EndsOf : SpaceState → List Access → ℕ → ReplayError → Type 0
EndsOf space trace place why = (why ≡ fault.NoMemory)
    ⊎ ((plan : PlanData) × IsPlanFor space plan × EndsTrace space.machine plan trace place why)

-- the routes of a trace as the items of an answer, or the place of the first access that can't be
-- replayed
abbrev pub IsReplayed : {A : Type 0} → (A → List RouteCounts) → SpaceState → List Access
    → Result A (ℕ × ReplayError) → Type 0
IsReplayed items space trace answer = MatchResult answer
    (λ routes. RoutesOf space trace (items routes)) (λ ended. EndsOf space trace ended.0 ended.1)

-- the same of the core that is kept
abbrev pub Replays : {A : Type 0} → (A → List RouteCounts) → Option CoreState → List Access
    → Result A (ℕ × ReplayError) → Type 0
Replays items kept trace answer =
    (core : CoreState) → kept ≡ Some core → IsReplayed items core.space trace answer
