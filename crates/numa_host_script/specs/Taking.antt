-- A line that is taken, and then answered or judged.
use Rattle.std.specs.Prelude.{◌≡◌, ◌↔◌, ℕ, Bool, List, Option, Some, None, Ok}
use Rattle.std.specs.Prelude.{IsSomeAnd, IsTrue}
use Rattle.numa_lines.specs.Written.{Said}
use Rattle.numa_lines.specs.declared.watched.Watched.{Watched}
use Rattle.numa_script.specs.Lines.{alone}
use Rattle.numa_script.specs.Replies.{LacksMemory, fault_in}
use Rattle.numa_script.specs.declared.line.Line.TheVariants as line
use Rattle.numa_script.specs.declared.line.ScriptLine.{ScriptLine}
use Rattle.numa_script.specs.declared.page_line.PageLine.TheVariants as page
use Rattle.numa_script.specs.declared.reply.Reply.{Reply}
use Rattle.numa_script.specs.declared.reply.Reply.TheVariants as reply
use Rattle.numa_run.specs.Judged.{fault_or}
use Rattle.numa_run.specs.Replies.{Answer, Replied, Shown, bytes_of, reply_in}
use Rattle.numa_run.specs.HugeLines.{pools_answer}
use Rattle.numa_run.specs.PoolTexts.{pools_line}
use Rattle.numa_run.specs.Scripts.{arrived_answer}
use Rattle.numa_run.specs.declared.running.Taken.{Taken}
use Rattle.numa_run.specs.declared.running.Taken.TheVariants as own
use Rattle.numa_host_script.specs.declared.lines.Shows.{Shows}
use Rattle.numa_host_script.specs.declared.lines.Shows.TheVariants as shows
use Rattle.numa_host_script.specs.Judged.{Starves, session_fault, session_refused}
use Rattle.numa_host_script.specs.Sessions.{Hosted, Hosting, HostLack, Session, Single}
use Rattle.numa_host_script.specs.Sessions.{session_after, session_answer, session_served}
use Rattle.numa_host_script.specs.Paging.{arrived_text}
use Rattle.numa_host_script.specs.Standing.{StandsIn, told, unboxed}
use Rattle.numa_host_script.specs.declared.script.HostScript.{HostScript}
use Rattle.numa_host_script.specs.declared.taking.HostTaken.{HostTaken}
use Rattle.numa_host_script.specs.declared.taking.HostTaken.TheVariants as taken

-- what is left of a line that was taken: its reply; or the line, which has changed nothing and
-- whose answer is a text of what there is; or what pages that it touched did, or what the pools of
-- pages of 2 MiB have, which the session after it tells
pub data Left : Type 0 where
  Told : Reply → Left
  Open : ScriptLine → Left
  Touched : Option ℕ → Left
  Pooled : Left

abbrev pub left_in : HostTaken → Left
left_in (taken.Own (own.Reply answer)) = Told answer
left_in (taken.Own (own.Question asked)) = Open (alone (line.Question asked))
left_in (taken.Own (own.Maps task)) = Open (alone (line.Maps task))
left_in (taken.Own own.Moved) = Open (alone (line.Pages (Ok page.Moved)))
left_in (taken.Own own.Rooms) = Open (alone (line.Pages (Ok page.Rooms)))
left_in (taken.Own own.Arrived) = Touched None
left_in (taken.Own own.Pools) = Pooled
left_in (taken.Reply answer) = Told answer
left_in (taken.Asked process asked) = Open (told process (line.Question asked))
left_in (taken.Listed process task) = Open (told process (line.Maps task))
left_in (taken.Moved process) = Open (told process (line.Pages (Ok page.Moved)))
left_in taken.MovedAll = Open (alone (line.Pages (Ok page.Moved)))
left_in taken.Rooms = Open (alone (line.Pages (Ok page.Rooms)))
left_in taken.Pools = Pooled
left_in (taken.Arrived process) = Touched (Some process)

-- what pages that were touched did, those of the one process or of one of a host
abbrev pub touched_by : Option ℕ → Hosting → Answer
touched_by None at = Replied reply.BadState
touched_by (Some process) at = Shown (arrived_text at process)

abbrev pub touched_answer : Session → Option ℕ → Answer
touched_answer (Single state) process = arrived_answer state
touched_answer (Hosted at) process = touched_by process at

-- what the pools have, those of the one process or the host's
abbrev pub pooled_answer : Session → Answer
pooled_answer (Single state) = pools_answer state
pooled_answer (Hosted at) = Shown (pools_line at.lying.huge.pools)

-- the reply is the one that the definition says, or the line is left as it is
abbrev pub IsLeft : HostLack → Session → ScriptLine → Left → Type 0
IsLeft lack session said (Told answer) =
    Some answer ≡ reply_in (session_served lack session said).answer
IsLeft lack session said (Open same) = said ≡ same
IsLeft lack session said (Touched process) =
    (touched_answer (session_after lack session said) process
    ≡ (session_served lack session said).answer)
    × (None ≡ session_refused lack session said)
IsLeft lack session said Pooled =
    (pooled_answer (session_after lack session said)
    ≡ (session_served lack session said).answer)
    × (None ≡ session_refused lack session said)

-- the answer of what is left, and its fault or refusal
abbrev pub answer_left : HostLack → Session → Left → Answer
answer_left lack session (Told answer) = Replied answer
answer_left lack session (Open said) = (session_served lack session said).answer
answer_left lack session (Touched process) = touched_answer session process
answer_left lack session Pooled = pooled_answer session

abbrev pub fault_left : HostLack → Session → Left → Option Reply
fault_left lack session (Told answer) = fault_in answer
fault_left lack session (Open said) = session_fault lack session said
fault_left lack session (Touched process) =
    fault_or (reply_in (touched_answer session process)) None
fault_left lack session Pooled = fault_or (reply_in (pooled_answer session)) None

-- where there is a host, a line that names no process and shows what is has no place; but the rooms
-- and the pools are the host's, and so is its last move
abbrev pub misplaced_reply : Taken → Option Reply
misplaced_reply (own.Reply answer) = Some answer
misplaced_reply (own.Question asked) = Some reply.BadState
misplaced_reply (own.Maps task) = Some reply.BadState
misplaced_reply own.Moved = None
misplaced_reply own.Rooms = None
misplaced_reply own.Arrived = Some reply.BadState
misplaced_reply own.Pools = None

-- of these three it is the last move, the pools, or else the rooms
abbrev pub shown_by : Taken → Shows
shown_by own.Moved = shows.Move
shown_by own.Pools = shows.Pools
shown_by _ = shows.Rooms

-- ---- what a script does with a line

abbrev pub SessionStandsFor : HostScript → Session → Type 0
SessionStandsFor script session =
    StandsIn script.script script.limits (unboxed script.host) session

-- the line was carried out, and the session that the definition says is reached
abbrev pub SessionTakes : HostScript → ScriptLine → HostTaken → HostScript → Type 0
SessionTakes old said found new =
    (session : Session) → SessionStandsFor old session → (lack : HostLack)
    × SessionStandsFor new (session_after lack session said)
    × IsLeft lack session said (left_in found)

-- the answer was said, and nothing else changed; and whether it tells lack of memory
abbrev pub SessionWrites : {W : Type 0} → (W → Option (List ℕ)) → HostScript → Watched W
    → HostTaken → Bool → HostScript → Watched W → Type 0
SessionWrites contents old output found starved new output_then =
    (session : Session) → SessionStandsFor old session → (lack : HostLack)
    × SessionStandsFor new session
    × Said contents output output_then (bytes_of (answer_left lack session (left_in found)))
    × (IsTrue starved ↔ IsSomeAnd (fault_left lack session (left_in found)) LacksMemory)

-- the fault or the refusal was told, and nothing changed
abbrev pub SessionTells : HostScript → HostTaken → Option Reply → HostScript → Type 0
SessionTells old found fault new =
    (session : Session) → SessionStandsFor old session → (lack : HostLack)
    × SessionStandsFor new session × (fault ≡ fault_left lack session (left_in found))

-- the line was served, and whether its answer tells lack of memory
abbrev pub SessionServes : {W : Type 0} → (W → Option (List ℕ)) → HostScript → Watched W
    → ScriptLine → Bool → HostScript → Watched W → Type 0
SessionServes contents old output said starved new output_then =
    (session : Session) → SessionStandsFor old session → (lack : HostLack)
    × SessionStandsFor new (session_after lack session said)
    × Said contents output output_then (session_answer lack session said)
    × (IsTrue starved ↔ Starves lack session said)

-- the line was judged: its fault or its refusal is given, or none where its answer is neither
abbrev pub SessionJudges : HostScript → ScriptLine → Option Reply → HostScript → Type 0
SessionJudges old said fault new =
    (session : Session) → SessionStandsFor old session → (lack : HostLack)
    × SessionStandsFor new (session_after lack session said)
    × (fault ≡ session_fault lack session said)
