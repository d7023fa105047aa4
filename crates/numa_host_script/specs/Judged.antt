-- Which lines are answered by a fault or a refusal, where a script may become a host's. `lacked`
-- says what a line lacked while it was judged.
use Rattle.std.specs.Prelude.{ℕ, Bool, true, false, Option, Some, None, IsSomeAnd}
use Rattle.std.specs.Option.{option_map}
use Rattle.numa_host.specs.Processes.{commands_of, is_there, members_of}
use Rattle.numa_page_state.specs.Outcomes.{Lack, is_starved}
use Rattle.numa_script.specs.Replies.{LacksMemory}
use Rattle.numa_script.specs.declared.line.Line.{Line}
use Rattle.numa_script.specs.declared.line.Line.TheVariants as line
use Rattle.numa_script.specs.declared.line.Question.{Question}
use Rattle.numa_script.specs.declared.line.ScriptLine.{ScriptLine}
use Rattle.numa_script.specs.declared.reply.Reply.{Reply}
use Rattle.numa_script.specs.declared.reply.Reply.TheVariants as reply
use Rattle.numa_run.specs.Answers.{own_line}
use Rattle.numa_run.specs.Judged.{asked_fault, fault_or, question_cause}
use Rattle.numa_run.specs.Replies.{reply_in}
use Rattle.numa_host_script.specs.Sessions.{Hosting, HostLack, Session, Single, Hosted}
use Rattle.numa_host_script.specs.Sessions.{host_outcome, session_served}

-- the refusal of a question to a process: that of a script that has accepted its commands
abbrev pub refused_where : Bool → Lack → Hosting → ℕ → Question → Option Reply
refused_where false lacked at process asked = None
refused_where true lacked at process asked = option_map reply.Refused
    (question_cause (is_starved lacked) at.machine
    (commands_of at.machine at.history process) asked)

abbrev pub refused_in : Lack → Hosting → ℕ → Line → Option Reply
refused_in lacked at process (line.Question asked) =
    refused_where (is_there (members_of at.history) process) lacked at process asked
refused_in lacked at process _ = None

abbrev pub refused_by : Option ℕ → Lack → Hosting → Line → Option Reply
refused_by None lacked at said = None
refused_by (Some process) lacked at said = refused_in lacked at process said

-- the fault or the refusal that a line of a host is answered; none where its answer is neither
abbrev pub host_fault : HostLack → Hosting → ScriptLine → Option Reply
host_fault lack at said = fault_or (reply_in (host_outcome lack at said).answer)
    (refused_by said.process lack.lacked at said.line)

-- the refusal of a question
abbrev pub session_refused : HostLack → Session → ScriptLine → Option Reply
session_refused lack (Single state) said = asked_fault lack.lacked state (own_line said)
session_refused lack (Hosted at) said = refused_by said.process lack.lacked at said.line

-- the fault or the refusal that a line is answered; none where its answer is neither
abbrev pub session_fault : HostLack → Session → ScriptLine → Option Reply
session_fault lack session said = fault_or
    (reply_in (session_served lack session said).answer) (session_refused lack session said)

-- the answer tells that memory lacked
abbrev pub Starves : HostLack → Session → ScriptLine → Type 0
Starves lack session said = IsSomeAnd (session_fault lack session said) LacksMemory
