-- What the exported calls of desks and their readers answer and do.
use Rattle.std.specs.Prelude.{◌≡◌, ◌&&◌, ℕ, not, nat_le, []}
use Rattle.std.specs.Prelude.{if◌then◌else◌, Option, Some, None, Result, Ok, Err, List, MatchResult}
use Rattle.numa_mask.specs.declared.list.ListFault.{ListFault}
use Rattle.numa_machine.specs.declared.no_memory.NoMemory.{NoMemory}
use Rattle.numa_space.specs.Limited.{Bounds}
use Rattle.numa_requests.specs.declared.command.Command.{Command}
use Rattle.numa_requests.specs.declared.refusal.Refusal.{Refusal}
use Rattle.numa_publish.specs.Shown.{DeskState, ViewState}
use Rattle.numa_publish.specs.declared.taker.LookRefusal.{LookRefusal}
use Rattle.numa_publish.specs.declared.taker.LookRefusal.TheVariants as look
use Rattle.numaplan_handles.specs.Desks.{Orders, Shows}
use Rattle.numaplan_handles.specs.Readers.{Renews}
use Rattle.numaplan_c.specs.Border.{IsMachineOf}
use Rattle.numaplan_c.specs.Codes.{refusal_code}
use Rattle.numaplan_c.specs.declared.options.Options.{Options}

-- ---- opening

-- a desk of that machine and these limits, before its first command
abbrev pub IsDeskSetUp : Result ℕ ListFault → List ℕ → List ℕ → Options → Bounds → DeskState
    → Type 0
IsDeskSetUp list frames distances options bounds desk =
    IsMachineOf list frames distances options desk.desk.machine × (desk.bounds ≡ bounds)
    × (desk.published ≡ []) × (desk.pending ≡ [])

-- why limits, or a number of readers, are refused
abbrev pub readers_cause : Bounds → ℕ → Option ℕ
readers_cause bounds readers = if not (nat_le bounds.max_ranges 65536
    && nat_le bounds.max_tasks 1024) then Some 54
    else if not (nat_le 1 readers && nat_le readers 64) then Some 118
    else None

-- ---- commands

abbrev pub order_code : Result ℕ Refusal → ℕ
order_code (Ok version) = 0
order_code (Err cause) = refusal_code cause

-- the call gave the kept desk the command and answered by its number; a closed handle answers 1 and
-- stays closed
abbrev pub DeskAnswers : Option DeskState → Command → ℕ → Option DeskState → Type 0
DeskAnswers old command code new = (old ≡ None → (code ≡ 1) × (new ≡ None))
    × ((desk : DeskState) → old ≡ Some desk → (answer : Result ℕ Refusal)
    × (code ≡ order_code answer) × Orders command old new answer)

-- the same for a command with a word that is read first: a faulty word is told, by `code_of` its
-- fault, and changes nothing
abbrev pub DeskAnswersRead : {A F : Type 0} → Result A F → (F → ℕ) → (A → Command)
    → Option DeskState → ℕ → Option DeskState → Type 0
DeskAnswersRead word code_of command old code new = MatchResult word
    (λ it. DeskAnswers old (command it) code new) (λ fault. (code ≡ code_of fault) × (new ≡ old))

-- ---- publishing

-- the number of an answer that is a version or out of memory; the version is told where there is
-- one
abbrev pub shown_code : Result ℕ NoMemory → ℕ
shown_code (Ok version) = 0
shown_code (Err lack) = 3

abbrev pub told_or : {E : Type 0} → Result ℕ E → ℕ → ℕ
told_or (Ok version) old = version
told_or (Err why) old = old

-- the kept desk published what it had accepted, and answered by the number; a closed handle answers
-- 1, stays closed, and nothing is told
abbrev pub Published : Option DeskState → ℕ → Option DeskState → ℕ → ℕ → Type 0
Published old code new version told =
    (old ≡ None → (code ≡ 1) × (new ≡ None) × (told ≡ version))
    × ((desk : DeskState) → old ≡ Some desk → (answer : Result ℕ NoMemory)
    × (code ≡ shown_code answer) × (told ≡ told_or answer version) × Shows old new answer)

-- ---- readers

abbrev pub look_code : Result ℕ LookRefusal → ℕ
look_code (Ok version) = 0
look_code (Err look.Ended) = 116
look_code (Err look.NotYet) = 117

-- the kept reader looked again, and answered by the number; a closed handle answers 1, stays
-- closed, and nothing is told
abbrev pub Renewed : ℕ → Option ViewState → ℕ → Option ViewState → ℕ → ℕ → Type 0
Renewed least old code new version told =
    (old ≡ None → (code ≡ 1) × (new ≡ None) × (told ≡ version))
    × ((view : ViewState) → old ≡ Some view → (answer : Result ℕ LookRefusal)
    × (code ≡ look_code answer) × (told ≡ told_or answer version) × Renews least old new answer)
