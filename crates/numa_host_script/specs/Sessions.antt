-- What each line is answered, and the state after it. Until a line `host` is accepted, all is as in
-- a script of one process. `lack` says what lacked while the line was served, `lacked` what the line
-- itself did.
use Rattle.std.specs.Prelude.{ℕ, ◌==◌, ◌&&◌, not, Bool, true, false, Option, Some, None, List}
use Rattle.std.specs.Prelude.{[], ◌∷◌, length, if◌then◌else◌, Result, Ok, Err, is_some}
use Rattle.numa_machine.specs.Machine.{Hardware}
use Rattle.numa_machine.specs.declared.rules.Rules.{Rules}
use Rattle.numa_requests.specs.declared.command.Command.TheVariants as own
use Rattle.numa_requests.specs.declared.host_command.HostCommand.{HostCommand}
use Rattle.numa_requests.specs.declared.host_command.HostCommand.TheVariants as command
use Rattle.numa_requests.specs.declared.host_refusal.HostRefusal.TheVariants.{NoMemory}
use Rattle.numa_requests.specs.declared.host_refusal.HostRefusal.TheVariants.{NoSuchProcess}
use Rattle.numa_host.specs.Processes.{commands_of, is_there, members_of}
use Rattle.numa_host_pages.specs.Homes.{empty_host}
use Rattle.numa_space.specs.Limited.{Bounds}
use Rattle.numa_page_state.specs.Outcomes.{Lack, is_starved}
use Rattle.numa_script.specs.Lines.{line_of}
use Rattle.numa_script.specs.declared.line.Line.{Line}
use Rattle.numa_script.specs.declared.line.Line.TheVariants as line
use Rattle.numa_script.specs.declared.line.Question.{Question}
use Rattle.numa_script.specs.declared.line.ScriptLine.{ScriptLine}
use Rattle.numa_script.specs.declared.policy.WordError.{WordError}
use Rattle.numa_script.specs.declared.reply.Reply.{Reply}
use Rattle.numa_script.specs.declared.reply.Reply.TheVariants as reply
use Rattle.numa_run.specs.Answers.{State, after, own_line, start_by}
use Rattle.numa_run.specs.Machines.{limits_fit}
use Rattle.numa_run.specs.Listings.{both_listing}
use Rattle.numa_run.specs.Obeying.{bound_command}
use Rattle.numa_run.specs.Questions.{question_text}
use Rattle.numa_run.specs.Replies.{Answer, Replied, bind_nothing, bytes_of, outcome_of}
pub use Rattle.numa_host_script.specs.Hosts.{Hosting, HostLack, Outcome, command_outcome, said_outcome}
pub use Rattle.numa_host_script.specs.Hosts.{cause_by, command_unless, with_reply, with_text}
pub use Rattle.numa_host_script.specs.Hosts.{host_needs_room}
use Rattle.numa_host_script.specs.Paging.{bound_outcome, memory_at, own_page_outcome, pages_at}
use Rattle.numa_host_script.specs.Pooling.{huge_outcome, own_huge_outcome}
use Rattle.numa_host_script.specs.Paging.{pages_outcome, process_in}
pub use Rattle.numa_host_script.specs.Paging.{given_outcome}

-- what the lines so far have led to: one process, as in every script, or a host
pub data Session : Type 0 where
  Single : State → Session
  Hosted : Hosting → Session

-- before the first line, where these rules count unless a line gives others
abbrev pub session_by : Rules → Session
session_by rules = Single (start_by rules)

-- ---- what a process answers: as a script of one process that has accepted its commands

abbrev pub asked_where : Bool → Lack → Hosting → ℕ → Question → Outcome
asked_where false lacked at process asked = with_reply (reply.HostRefused NoSuchProcess) at
asked_where true lacked at process asked =
    with_text (question_text (is_starved lacked) at.machine
    (commands_of at.machine at.history process) asked) at

abbrev pub listed_where : Bool → Hosting → ℕ → ℕ → Outcome
listed_where false at process task = with_reply (reply.HostRefused NoSuchProcess) at
listed_where true at process task =
    with_text (both_listing (process_in at process) (pages_at at process).spots
    (memory_at at process) task) at

-- a line that a process is told
abbrev pub in_outcome : Lack → Hosting → ℕ → Line → Outcome
in_outcome lacked at process (line.Command said) = given_outcome lacked at process said
in_outcome lacked at process (line.EmptyBind start fault) =
    given_outcome lacked at process (bind_nothing at.machine.rules start fault)
in_outcome lacked at process (line.Question asked) =
    asked_where (is_there (members_of at.history) process) lacked at process asked
in_outcome lacked at process (line.Maps task) =
    listed_where (is_there (members_of at.history) process) at process task
in_outcome lacked at process (line.Pages said) = pages_outcome lacked at process said
in_outcome lacked at process (line.Bind start bytes policy pages) =
    bound_outcome lacked at process pages (bound_command at.machine.rules start bytes policy)
in_outcome lacked at process (line.Huge said) = huge_outcome lacked at process said
in_outcome lacked at process _ = with_reply reply.BadState at

-- ---- every line of a host

-- the command of the host that a line says, or what is wrong with its list
abbrev pub host_command_of : Line → Option (Result HostCommand WordError)
host_command_of (line.HostCommand said) = Some said
host_command_of (line.Command (Ok (own.SetWeight node weight))) =
    Some (Ok (command.SetWeight node weight))
host_command_of _ = None

-- lines of one process have no place, but behind `in`
abbrev pub plain_reply : Line → Reply
plain_reply line.Silent = reply.Silent
plain_reply line.Malformed = reply.BadWords
plain_reply _ = reply.BadState

abbrev pub own_where : Option (Result HostCommand WordError) → HostLack → Hosting → Line → Outcome
own_where None lack at said = with_reply (plain_reply said) at
own_where (Some told) lack at said = said_outcome lack at told

abbrev pub own_outcome : HostLack → Hosting → Line → Outcome
own_outcome lack at (line.Pages (Ok said)) = own_page_outcome at said
own_outcome lack at (line.Huge said) = own_huge_outcome at said
own_outcome lack at said = own_where (host_command_of said) lack at said

-- a line of the host, or of one of its processes
abbrev pub outcome_by : Option ℕ → HostLack → Hosting → Line → Outcome
outcome_by None lack at said = own_outcome lack at said
outcome_by (Some process) lack at said = in_outcome lack.lacked at process said

abbrev pub host_outcome : HostLack → Hosting → ScriptLine → Outcome
host_outcome lack at said = outcome_by said.process lack at said.line

-- ---- before a host

-- the limits of the machine that is ready, or of the one to come, after a line
abbrev pub bounds_after : Option Hardware → Bounds → Line → Bounds
bounds_after None bounds (line.Limits ranges tasks commands) =
    if limits_fit ranges tasks
    then record { max_ranges = ranges; max_tasks = tasks; max_commands = commands }
    else bounds
bounds_after _ bounds _ = bounds

-- ---- every line

pub record Served : Type 0 where
  pub answer : Answer
  pub session : Session

-- a reply that changes nothing
abbrev pub replied : Reply → Session → Served
replied answer session = record { answer = Replied answer; session = session }

-- a machine is ready, no command is accepted yet, and no page of 2 MiB is kept: a `pool` with a
-- number keeps some
abbrev pub is_fresh : State → Bool
is_fresh state = is_some state.machine
    && (length state.world.history == 0 && not (is_some state.huge))

-- `host`, behind `machine` and before every command and `pool`: all that follows is a host's
abbrev pub begun_on : Option Hardware → Lack → State → Served
begun_on None lacked state = replied reply.BadState (Single state)
begun_on (Some machine) lacked state =
    if is_starved lacked then replied (reply.HostRefused NoMemory) (Single state)
    else replied reply.HostReady (Hosted (record {
      machine = machine;
      bounds = state.bounds;
      history = [];
      lying = empty_host machine.memory;
    }))

abbrev pub begun_where : Bool → Lack → State → Served
begun_where false lacked state = replied reply.BadState (Single state)
begun_where true lacked state = begun_on state.machine lacked state

abbrev pub begun : Lack → Session → Served
begun lacked (Single state) = begun_where (is_fresh state) lacked state
begun lacked (Hosted at) = replied reply.BadState (Hosted at)

abbrev pub with_outcome : Hosting → Outcome → Served
with_outcome at outcome = record {
  answer = outcome.answer;
  session = Hosted (record {
    machine = at.machine;
    bounds = at.bounds;
    history = outcome.history;
    lying = outcome.lying;
  });
}

abbrev pub served : HostLack → Session → ScriptLine → Served
served lack (Single state) said = record {
  answer = (outcome_of lack.lacked state (own_line said)).answer;
  session = Single (after lack.lacked state (own_line said));
}
served lack (Hosted at) said = with_outcome at (host_outcome lack at said)

abbrev pub is_host : Line → Bool
is_host line.Host = true
is_host _ = false

-- a line `host`
abbrev pub is_begin : ScriptLine → Bool
is_begin said = not (is_some said.process) && is_host said.line

-- what serving a line in a session comes to
unfoldable pub session_served : HostLack → Session → ScriptLine → Served
session_served lack session said =
    if is_begin said then begun lack.lacked session else served lack session said

abbrev pub session_answer : HostLack → Session → ScriptLine → List ℕ
session_answer lack session said = bytes_of (session_served lack session said).answer

abbrev pub session_after : HostLack → Session → ScriptLine → Session
session_after lack session said = (session_served lack session said).session

-- the same of a line that is given as bytes
abbrev pub session_answer_to : HostLack → Session → List ℕ → List ℕ
session_answer_to lack session bytes = session_answer lack session (line_of bytes)

abbrev pub session_after_bytes : HostLack → Session → List ℕ → Session
session_after_bytes lack session bytes = session_after lack session (line_of bytes)
