-- What an exported call that reports on scripts answers.
use Rattle.std.specs.Prelude.{◌≡◌, ◌==◌, ◌||◌, ◌+◌, ℕ, Bool, true, List, length}
use Rattle.std.specs.Prelude.{Option, Some, None, Result, Ok, Err, if◌then◌else◌}
use Rattle.numa_sheets.specs.declared.format.Format.{Format}
use Rattle.numa_sheets.specs.declared.format.Format.TheVariants as format
use Rattle.numa_subjects.specs.declared.ended.Ended.{Ended}
use Rattle.numa_subjects.specs.declared.ended.Ended.TheVariants as ended
use Rattle.numa_subjects.specs.declared.halt.Halt.{Halt}
use Rattle.numa_subjects.specs.declared.halt.Halt.TheVariants as halt
use Rattle.numaplan_handles.specs.Room.{Copies}
use Rattle.numaplan_reports.specs.declared.report.Report.{Report}
use Rattle.numaplan_c.specs.Border.{Asked}
use Rattle.numaplan_c.specs.declared.reports.NpReport.{NpReport}

-- the format that has this number
abbrev pub format_of : ℕ → Option Format
format_of number =
    if number == 0 then Some format.Text
    else if number == 1 then Some format.Json
    else if number == 2 then Some format.Csv
    else if number == 3 then Some (format.Svg 40)
    else if number == 4 then Some (format.Html 400)
    else None

-- why a question about a script has no answer
abbrev pub halt_code : Halt → ℕ
halt_code (halt.Stopped why) = 3
halt_code halt.NoMachine = 80
halt_code (halt.NoNode nodes) = 35
halt_code (halt.NoFreeNode node nodes) = 17
halt_code halt.Unmapped = 36
halt_code (halt.BadAccess place why) = 81
halt_code halt.NothingServed = 81
halt_code halt.NoHost = 82
halt_code (halt.NoProcess process) = 82
halt_code halt.ManyProcesses = 82
halt_code (halt.ManyTasks first second) = 36
halt_code halt.TwoPages = 36

abbrev pub end_code : Result Ended Halt → ℕ
end_code (Ok lines) = 0
end_code (Err why) = halt_code why

-- 1 if the answer is based on the accepted lines alone
abbrev pub faulty_number : Result Ended Halt → ℕ
faulty_number (Ok ended.Clean) = 0
faulty_number (Ok ended.Faulty) = 1
faulty_number (Err why) = 0

-- the code of a report whose text was copied, or was too long
abbrev pub told_code : ℕ → Result ℕ ℕ → ℕ
told_code code (Ok count) = code
told_code code (Err count) = 4

-- the answer, and the messages behind it, are at the beginning of the room, or there was no room
-- for them; how long each is is returned
abbrev pub TellsReport : Report → ℕ → List ℕ → List ℕ → NpReport → Type 0
TellsReport said code old new told = (copied : Result ℕ ℕ)
    × (code ≡ told_code (end_code said.ended) copied) × Copies said.text.items copied old new
    × (told.answer ≡ said.answer) × (told.answer + told.messages ≡ length said.text.items)
    × (told.faulty ≡ faulty_number said.ended)

-- nothing is told: out of memory, or no rules or no format have the number
abbrev pub is_untold : ℕ → Bool
is_untold code = code == 3 || code == 56 || code == 58

abbrev pub Told : Result Report ℕ → ℕ → List ℕ → List ℕ → NpReport → NpReport → Type 0
Told (Ok said) code old new before after = TellsReport said code old new after
Told (Err cause) code old new before after = (code ≡ cause) × (is_untold cause ≡ true)
    × (new ≡ old) × (after ≡ before)

-- some report is told, or none is, and nothing has changed
abbrev pub Reported : ℕ → List ℕ → List ℕ → NpReport → NpReport → Type 0
Reported code old new before after =
    (said : Result Report ℕ) × Told said code old new before after

-- the same of a question to a handle, which leaves what it keeps as it was; a closed handle answers
-- 1, and nothing has changed
abbrev pub ReportedOf : {A : Type 0} → Option A → Option A → ℕ → List ℕ → List ℕ → NpReport
    → NpReport → Type 0
ReportedOf kept kept_then code old new before after =
    Asked kept kept_then code ((new ≡ old) × (after ≡ before))
    (λ it. Reported code old new before after)
