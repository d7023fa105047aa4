-- What a handle of a core answers to questions for reports. Each answer is that of the accepted
-- commands.
use Rattle.std.specs.Prelude.{◌≡◌, ℕ, ◌^◌, List, Option, Some, Result, MatchResult}
use Rattle.numa_core.specs.Standing.{CoreState}
use Rattle.numa_rules.specs.Explained.{IsExplanation, IsRefusedBy}
use Rattle.numa_rules.specs.declared.explanation.Explanation.{Explanation}
use Rattle.numa_rules.specs.declared.fault.ReasonError.{ReasonError}
use Rattle.numa_reports.specs.Failing.{MayFail}
use Rattle.numa_reports.specs.Filled.{free_behind, nodes_of}
use Rattle.numa_reports.specs.Predicted.{AreFirsts}
use Rattle.numa_reports.specs.declared.fault.ReportError.{ReportError}
use Rattle.numa_space.specs.Standing.{SpaceState, StandsFor, place_refusal_of}
use Rattle.numa_requests.specs.declared.command.Command.{Command}

-- how many mapped pages would go to each node, if the task touched each of them now on a CPU of a
-- node; else the machine lacks the node, or there was no memory
abbrev pub IsPredicted : SpaceState → ℕ → ℕ → Result (List ℕ) ReportError → Type 0
IsPredicted space task cpu answer = (history : List Command) → StandsFor space history
    → MatchResult answer (AreFirsts space.machine history task 0 (2 ^ 35) cpu)
    (MayFail space.machine.nodes cpu)

-- what remains free on each node, if the task touched all mapped pages so, in ascending order
abbrev pub IsFilled : SpaceState → ℕ → ℕ → List ℕ → Result (List ℕ) ReportError → Type 0
IsFilled space task cpu free answer = (history : List Command) → StandsFor space history
    → MatchResult answer (λ left. left
    ≡ free_behind (nodes_of space.machine history task cpu) free 0 (2 ^ 35))
    (MayFail space.machine.nodes cpu)

-- why a page would go where it goes, if the task touched it so; else the first cause that refuses
-- the question, or there was no memory
abbrev pub IsExplained : SpaceState → ℕ → ℕ → ℕ → Result Explanation ReasonError → Type 0
IsExplained space task page cpu answer = (history : List Command) → StandsFor space history
    → MatchResult answer (IsExplanation space.machine history task page cpu)
    (IsRefusedBy (place_refusal_of space.machine history page cpu))

-- the same of the core that is kept
abbrev pub Predicts : Option CoreState → ℕ → ℕ → Result (List ℕ) ReportError → Type 0
Predicts kept task cpu answer =
    (core : CoreState) → kept ≡ Some core → IsPredicted core.space task cpu answer

abbrev pub Fills : Option CoreState → ℕ → ℕ → List ℕ → Result (List ℕ) ReportError → Type 0
Fills kept task cpu free answer =
    (core : CoreState) → kept ≡ Some core → IsFilled core.space task cpu free answer

abbrev pub Explains : Option CoreState → ℕ → ℕ → ℕ → Result Explanation ReasonError → Type 0
Explains kept task page cpu answer =
    (core : CoreState) → kept ≡ Some core → IsExplained core.space task page cpu answer
