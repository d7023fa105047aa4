-- Why there is no report.
use Rattle.std.specs.Prelude.{ℕ, ◌≤◌, ◌⊎◌, List, Result, IfErr}
use Rattle.numa_machine.specs.Machine.{Hardware}
use Rattle.numa_space.specs.Standing.{SpaceState, StandsFor}
use Rattle.numa_requests.specs.declared.command.Command.{Command}
use Rattle.numa_machine.specs.declared.refusal.PlaceRefusal.{PlaceRefusal}
use Rattle.numa_machine.specs.declared.refusal.PlaceRefusal.TheVariants.{BadCpu, Unmapped}
use Rattle.numa_plan.specs.Meaning.{PlanData, RefusesSpan}
use Rattle.numa_compile.specs.Spans.{SpanIsRefused}
use Rattle.numa_compile.specs.Standing.{PlanStandsFor}
use Rattle.numa_reports.specs.declared.fault.ReportError.{ReportError}
use Rattle.numa_reports.specs.declared.fault.ReportError.TheVariants.{Memory, Refused}

-- there was no memory, or there is a refusal of this kind
abbrev pub FailsBy : (PlaceRefusal → Type 0) → ReportError → Type 0
FailsBy refuses (Refused refusal) = refuses refusal
FailsBy refuses Memory = Unit {0}

-- a refusal where all pages are mapped: the machine has no node `cpu`
abbrev pub MayRefuse : ℕ → ℕ → PlaceRefusal → Type 0
MayRefuse nodes cpu BadCpu = nodes ≤ cpu
MayRefuse nodes cpu Unmapped = ⊥

-- why there is no report on all mapped pages
abbrev pub MayFail : ℕ → ℕ → ReportError → Type 0
MayFail nodes cpu = FailsBy (MayRefuse nodes cpu)

-- by a plan of the space, a report on all mapped pages fails for its node alone, or for memory
abbrev pub FailsForNode : {T : Type 0} → SpaceState → PlanData → ℕ → Result T ReportError → Type 0
FailsForNode space plan cpu result = (history : List Command) → StandsFor space history
    → PlanStandsFor space.machine plan history → IfErr result (MayFail space.machine.nodes cpu)

-- a span is refused by the one plan or by the other
abbrev pub RefusesEither : PlanData → PlanData → ℕ → ℕ → ℕ → PlaceRefusal → Type 0
RefusesEither before after first pages cpu refusal =
    RefusesSpan before first pages cpu refusal ⊎ RefusesSpan after first pages cpu refusal

-- why there is none on how a span's pages move: it is refused before or after
abbrev pub MovesMayFail : Hardware → List Command → List Command → ℕ → ℕ → ℕ → ReportError → Type 0
MovesMayFail machine before after first pages cpu = FailsBy (λ refusal.
    SpanIsRefused machine before first pages cpu refusal
    ⊎ SpanIsRefused machine after first pages cpu refusal)
