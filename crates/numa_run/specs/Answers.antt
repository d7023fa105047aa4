-- The bytes and the reply that a line is answered, and the state after it.
use Rattle.std.specs.Prelude.{ℕ, Bool, List, Option, is_some, if◌then◌else◌}
use Rattle.numa_page_state.specs.Outcomes.{Lack}
use Rattle.numa_script.specs.Lines.{line_of}
use Rattle.numa_script.specs.declared.line.Line.{Line}
use Rattle.numa_script.specs.declared.line.Line.TheVariants.{Malformed}
use Rattle.numa_script.specs.declared.line.ScriptLine.{ScriptLine}
use Rattle.numa_run.specs.Replies.{bytes_of, reply_in, outcome_of}
use Rattle.numa_script.specs.declared.reply.Reply.{Reply}
pub use Rattle.numa_run.specs.States.{State, start, start_by}

abbrev pub answer_of : Lack → State → Line → List ℕ
answer_of lack state said = bytes_of (outcome_of lack state said).answer

-- the reply that is answered; none where a machine is ready and the line is a question, `maps`,
-- `moved`, `room` alone, or a `populate` that isn't refused
abbrev pub reply_of : Lack → State → Line → Option Reply
reply_of lack state said = reply_in (outcome_of lack state said).answer

abbrev pub after : Lack → State → Line → State
after lack state said = (outcome_of lack state said).state

-- what a line says to a script of one process: no process of a host may be told anything
abbrev pub own_line : ScriptLine → Line
own_line said = if is_some said.process then Malformed else said.line

-- the same of a line that is given as bytes
abbrev pub answer_to : Lack → State → List ℕ → List ℕ
answer_to lack state bytes = answer_of lack state (own_line (line_of bytes))

abbrev pub after_bytes : Lack → State → List ℕ → State
after_bytes lack state bytes = after lack state (own_line (line_of bytes))
