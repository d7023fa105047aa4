-- What an exported call that reports on a core answers.
use Rattle.std.specs.Prelude.{◌≡◌, ℕ, List, Result, Ok, Err}
use Rattle.numa_reports.specs.declared.fault.ReportError.{ReportError}
use Rattle.numa_reports.specs.declared.fault.ReportError.TheVariants as fault
use Rattle.numaplan_c.specs.Codes.{place_code}

abbrev pub fault_code : ReportError → ℕ
fault_code (fault.Refused cause) = place_code cause
fault_code fault.Memory = 3

-- a number for each node is told; where the report is refused, what stood there stays
abbrev pub TellsCounts : Result (List ℕ) ReportError → ℕ → List ℕ → List ℕ → Type 0
TellsCounts (Ok found) code old new = (code ≡ 0) × (new ≡ found)
TellsCounts (Err why) code old new = (code ≡ fault_code why) × (new ≡ old)
