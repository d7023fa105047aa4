-- Where pages lie that were touched.
use Rattle.std.proofs.Common.{◌≡◌, ◌∙◌, ℕ, ◌&&◌, ◌==◌, List, refl}
use Rattle.std.proofs.Common.{sym, inl, inr, ◌∷◌, Option}
use Rattle.std.proofs.lemmas.Bool.{cases_Bool}
use Rattle.numa_machine.specs.Machine.{Hardware}
use Rattle.numa_mode.specs.Policy.{PolicyRecord}
use Rattle.numa_ranges.specs.declared.run.Run.{Run}
use Rattle.numa_space.specs.Pages.{is_mapped}
use Rattle.numa_space.specs.Standing.{SpaceState, StandsFor}
use Rattle.numa_requests.specs.declared.command.Command.{Command}
use Rattle.numa_compile.specs.Spans.{SpanIsRefused, first_node, meant_count}
use Rattle.numa_placed.specs.Shifts.{is_stated}
use Rattle.numa_placed.proofs.Shared.{count-same}
use Rattle.numa_reports.specs.Failing.{FailsBy, MayFail}
use Rattle.numa_reports.specs.declared.fault.ReportError.{ReportError}
use Rattle.numa_reports.specs.declared.fault.ReportError.TheVariants.{Memory, Refused}
use Rattle.numa_reports.specs.declared.outlook.PageSpan.{PageSpan}
use Rattle.numa_reports.proofs.Refusing.{AreLeft, left-page, moves-refused, range-mapped}
use Rattle.numa_moves.specs.Shares.{stated_in, touched_spot}

-- as many lie on a node as have it as the first of their list
pub touched-counted : (machine : Hardware) (history : List Command) (task cpu : ℕ)
    (span : PageSpan) (node : ℕ)
    → meant_count machine history task span.first span.pages cpu node
    ≡ stated_in (touched_spot machine history task cpu) span node
touched-counted machine history task cpu span node =
    count-same
    (λ page. is_mapped history page && (first_node machine history task page cpu == node))
    (λ page. is_stated node (touched_spot machine history task cpu page)) span.first span.pages
    (λ page low high. elim (cases_Bool (is_mapped history page)) [
      | inl t ↦ rw t refl
      | inr e ↦ rw e refl
    ])

-- the next range is refused for its node alone
pub range-refused : (space : SpaceState) (history : List Command)
    (left rest : List (Run (Option PolicyRecord))) (range : Run (Option PolicyRecord)) (cpu : ℕ)
    (fault : ReportError) → StandsFor space history → AreLeft left space.ranges
    → left ≡ range ∷ rest
    → FailsBy (SpanIsRefused space.machine history range.first range.pages cpu) fault
    → MayFail space.machine.nodes cpu fault
range-refused space history left rest range cpu (Refused refusal) stands has is fails =
    moves-refused space.machine history history range.first range.pages cpu refusal
    (λ page low high.
    let there = sym (range-mapped space history page stands)
    ∙ left-page left space.ranges rest range page has is low high in
    (there, there)) (inl fails)
range-refused space history left rest range cpu Memory stands has is fails = tt
