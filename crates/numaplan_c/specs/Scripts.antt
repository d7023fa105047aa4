-- What an exported call about scripts answers.
use Rattle.std.specs.Prelude.{◌≡◌, ℕ, Bool, List, Result, Ok, Err}
use Rattle.numa_lines.specs.Output.{output_of}
use Rattle.numa_machine.specs.declared.rules.Rules.TheVariants.{Document}
use Rattle.numa_host_script.specs.Sessions.{HostLack, session_after_bytes, session_answer_to}
use Rattle.numa_host_script.specs.Sessions.{session_by}
use Rattle.numaplan_handles.specs.declared.dialog.LineRefusal.{LineRefusal}
use Rattle.numaplan_handles.specs.declared.dialog.LineRefusal.TheVariants as refused

-- the answers to a whole script, where memory lacked for some of its lines
abbrev pub AreAnswers : List ℕ → List ℕ → Type 0
AreAnswers script answers =
    (lacks : ℕ → HostLack)
    × (answers ≡ output_of session_answer_to session_after_bytes (session_by Document)
    lacks script)

abbrev pub line_code : Result ℕ LineRefusal → ℕ
line_code (Ok count) = 0
line_code (Err refused.NoMemory) = 3
line_code (Err refused.AnswerLost) = 6

-- the length of the answer is returned if there is one
abbrev pub length_told : Result ℕ LineRefusal → ℕ → ℕ
length_told (Ok count) old = count
length_told (Err refusal) old = old
