-- What a handle of a script keeps, and how lines are answered.
use Rattle.std.specs.Prelude.{◌≡◌, ℕ, Bool, List, [], length}
use Rattle.std.specs.Prelude.{Option, Some, None, Result, Ok, Err}
use Rattle.numaplan_handles.specs.Room.{Copies}
use Rattle.numa_machine.specs.declared.rules.Rules.{Rules}
use Rattle.numa_host_script.specs.Sessions.{HostLack, Session, session_after_bytes}
use Rattle.numa_host_script.specs.Sessions.{session_answer_to, session_by}
use Rattle.numa_host_script.specs.Standing.{StandsIn, unboxed}
use Rattle.numa_host_script.specs.declared.script.HostScript.{HostScript}
use Rattle.numaplan_handles.specs.declared.dialog.Dialog.{Dialog}
use Rattle.numaplan_handles.specs.declared.dialog.LineRefusal.{LineRefusal}
use Rattle.numaplan_handles.specs.declared.dialog.LineRefusal.TheVariants as refused

-- the script stands for what its lines so far have led to
abbrev pub IsAt : HostScript → Session → Type 0
IsAt script session = StandsIn script.script script.limits (unboxed script.host) session

-- before the first line, where these rules count unless a line gives others
abbrev pub IsFresh : Rules → Dialog → Type 0
IsFresh rules dialog = IsAt dialog.script (session_by rules) × (dialog.answer.items ≡ [])

-- the script stands for what the line leads to, where it stood for a session before it, and `told`
-- is what the line is answered there
abbrev pub IsServed : Dialog → List ℕ → Dialog → (List ℕ → Type 0) → Type 0
IsServed before line later told =
    (session : Session) → IsAt before.script session
    → (lack : HostLack)
    × IsAt later.script (session_after_bytes lack session line)
    × told (session_answer_to lack session line)

-- the line was served, and its answer is kept, which is so long; or there was no memory for it and
-- nothing has changed; or it was served, there was no memory for the whole answer, and none is kept
abbrev pub Serves : Dialog → List ℕ → Result ℕ LineRefusal → Dialog → Type 0
Serves before line (Ok count) later = (count ≡ length later.answer.items)
    × IsServed before line later (λ answer. later.answer.items ≡ answer)
Serves before line (Err refused.NoMemory) later = later ≡ before
Serves before line (Err refused.AnswerLost) later = (later.answer.items ≡ [])
    × IsServed before line later (λ answer. Unit {0})

-- the same of what is kept: a script before and a script after
abbrev pub ServesKept : List ℕ → Option Dialog → Option Dialog → Result ℕ LineRefusal → Type 0
ServesKept line old new answer = (before : Dialog) → old ≡ Some before →
    (later : Dialog) × (new ≡ Some later) × Serves before line answer later

-- the answer that is kept is copied, or it is longer than the room, which held `old`
abbrev pub CopiesKept : Option Dialog → Result ℕ ℕ → List ℕ → List ℕ → Type 0
CopiesKept None told old new = Unit {0}
CopiesKept (Some dialog) told old new = Copies dialog.answer.items told old new
