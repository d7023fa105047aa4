-- Ranges without their policies, and the state at one time.
use Rattle.std.specs.Prelude.{◌≡◌, ℕ, Option, List, Result, IfErr}
use Rattle.numa_machine.specs.Machine.{Hardware}
use Rattle.numa_mode.specs.Policy.{PolicyRecord}
use Rattle.numa_ranges.specs.declared.run.Run.{Run}
use Rattle.numa_space.specs.Pages.{is_mapped}
use Rattle.numa_requests.specs.declared.command.Command.{Command}
use Rattle.numa_compile.specs.Standing.{PlanStandsFor}
use Rattle.numa_reports.specs.Common.{AreRising, has_page}
use Rattle.numa_reports.specs.Failing.{MayFail}
use Rattle.numa_reports.specs.declared.fault.ReportError.{ReportError}
use Rattle.numa_reports.specs.declared.outlook.Outlook.{Outlook}
use Rattle.numa_reports.specs.declared.outlook.PageSpan.{PageSpan}
use Rattle.numa_reports.specs.declared.request.DifferenceRequest.{DifferenceRequest}

-- the pages of a range
abbrev pub span_of : Run (Option PolicyRecord) → PageSpan
span_of range = record { first = range.first; pages = range.pages }

-- the outlook is that of the history: its plan stands for it, and its rising spans have the mapped
-- pages
pub record IsOutlook (machine : Hardware) (history : List Command)
    (outlook : Outlook) : Type 0 where
  pub plan : PlanStandsFor machine outlook.plan history
  pub rising : AreRising 0 outlook.spans.items
  pub pages : (page : ℕ) → has_page outlook.spans.items page ≡ is_mapped history page

-- by outlooks of a machine's histories, a difference fails for its node alone, or for memory
abbrev pub FailsForChange : {T : Type 0} → DifferenceRequest → Result T ReportError → Type 0
FailsForChange asked result = (machine : Hardware) (old new : List Command)
    → asked.nodes ≡ machine.nodes → IsOutlook machine old asked.before.now
    → IsOutlook machine new asked.after.now → IfErr result (MayFail asked.nodes asked.touch.cpu)
