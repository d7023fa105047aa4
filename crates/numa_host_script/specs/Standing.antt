-- Which states a running script of a host stands for, and what it does with lines.
use Rattle.std.specs.Prelude.{◌≡◌, ℕ, Bool, Box, true, false, Option, Some, None, IsSome, Result}
use Rattle.std.specs.Prelude.{[], ◌∷◌, Ok, Err, IsSomeAnd, is_some, length, not}
use Rattle.std.specs.Global.{Global}
use Rattle.numa_space.specs.Limited.{Bounds}
use Rattle.numa_host.specs.Standing.{HostState, HostStandsFor, IsHostApplied}
use Rattle.numa_huge.specs.Huge.{HugeLying}
use Rattle.numa_host_huge.specs.Kept.{HugeKept}
use Rattle.numa_host_huge.specs.Sharing.{Sharing, begun_in, given_back as huge_back, memory_in}
use Rattle.numa_host_huge.specs.Standing.{HugeLies}
use Rattle.numa_requests.specs.declared.command.Command.{Command}
use Rattle.numa_host_pages.specs.Homes.{HostLying, memory_of, pages_in, pages_lent, taken_along}
use Rattle.numa_host_pages.specs.Homes.{with_huge, with_pages}
use Rattle.numa_host_pages.specs.Standing.{AreOf, HostLies}
use Rattle.numa_host_pages.specs.declared.pages.HostPages.{HostPages}
use Rattle.numa_page_state.specs.Lying.{Ground, Lying}
use Rattle.numa_page_state.specs.Outcomes.{Enough, Lack, forgotten, has_stated, lack_of, lack_told}
use Rattle.numa_page_state.specs.Sending.{asked_of, command_of}
use Rattle.numa_page_state.specs.Huge.{huge_walk}
use Rattle.numa_page_state.specs.declared.sending.Sending.{Sending}
use Rattle.numa_huge.specs.Huge.{HugePlaced}
use Rattle.numa_huge.specs.Moves.{HugeMemory}
use Rattle.numa_huge.specs.Tallies.{IsWalk}
use Rattle.numa_huge.specs.declared.last.Flows.{Flows}
use Rattle.numa_run.specs.Obeying.{toucher_of}
use Rattle.numa_page_state.specs.Standing.{HasSent, LiesAs}
use Rattle.numa_page_state.specs.declared.sending.Rebinding.{Rebinding}
use Rattle.numa_page_state.specs.declared.state.PageState.{PageState}
use Rattle.numa_placed.specs.Laid.{Laid}
use Rattle.numa_placed.specs.Spots.{spot_at}
use Rattle.numa_placed.specs.declared.spot.Spot.{Spot}
use Rattle.numa_requests.specs.declared.page_refusal.PlacedRefusal.{PlacedRefusal}
use Rattle.numa_page_state.specs.Standing.{LieThere}
use Rattle.numa_page_state.specs.declared.state.PageState.{PageState}
use Rattle.numa_placed.specs.declared.spot.Spot.TheVariants.{Nowhere}
use Rattle.numa_script.specs.Lines.{alone}
use Rattle.numa_script.specs.declared.page_line.MoveWords.{MoveWords}
use Rattle.numa_script.specs.declared.page_line.PageLine.TheVariants as page
use Rattle.numa_script.specs.declared.line.Line.{Line}
use Rattle.numa_script.specs.declared.line.Line.TheVariants as line
use Rattle.numa_script.specs.declared.line.ScriptLine.{ScriptLine}
use Rattle.numa_script.specs.declared.reply.Reply.{Reply}
use Rattle.numa_script.specs.declared.reply.Reply.TheVariants as reply
use Rattle.numa_requests.specs.declared.host_command.HostCommand.{HostCommand}
use Rattle.numa_requests.specs.declared.host_command.HostCommand.TheVariants.{In}
use Rattle.numa_requests.specs.declared.host_refusal.HostRefusal.{HostRefusal}
use Rattle.numa_run.specs.PoolTexts.{pools_line}
use Rattle.numa_run.specs.Replies.{Replied, Shown, reply_in}
use Rattle.numa_run.specs.Scripts.{ScriptStandsFor}
use Rattle.numa_run.specs.declared.script.Script.{Script}
use Rattle.numa_host_script.specs.Judged.{refused_by}
use Rattle.numa_host_script.specs.Paging.{arrived_text, huge_unmap, lying_with, memory_at}
use Rattle.numa_host_script.specs.Paging.{own_cause, pages_at}
use Rattle.numa_host_script.specs.Paging.{populated_both, sent_unless, takes_more, told_by}
use Rattle.numa_host_script.specs.Paging.{process_in}
use Rattle.numa_page_state.specs.Huge.{both_populated, unmapped_in}
use Rattle.numa_host_script.specs.Sessions.{Hosting, HostLack, Session, Single, Hosted, Outcome}
use Rattle.numa_host_script.specs.Sessions.{cause_by, command_unless, host_outcome, with_reply}
use Rattle.numa_host_script.specs.declared.running.RunningHost.{RunningHost}
use Rattle.numa_host_script.specs.declared.taking.HostTaken.{HostTaken}
use Rattle.numa_host_script.specs.declared.taking.HostTaken.TheVariants as taken

-- the host's machine and limits are these, and it stands for the commands; pages lie so, and they
-- are those of its processes
pub record RunsAs (running : RunningHost) (at : Hosting) : Type 0 where
  pub machine : running.host.blank.machine ≡ at.machine
  pub bounds : running.host.blank.bounds ≡ at.bounds
  pub stands : HostStandsFor running.host at.history
  pub lies : HostLies running.pages at.lying
  pub are : AreOf at.lying at.history

-- a script, the limits of its machine, and a host, once there is one
abbrev pub StandsIn : Script → Bounds → Option RunningHost → Session → Type 0
StandsIn script limits None (Single state) = ScriptStandsFor script state × (limits ≡ state.bounds)
StandsIn script limits (Some host) (Hosted at) = RunsAs host at
StandsIn script limits _ _ = ⊥

-- the host that lies on the heap
abbrev pub unboxed : Option (Box RunningHost Global) → Option RunningHost
unboxed None = None
unboxed (Some running) = Some running.value

-- ---- what a session is

-- one process's
abbrev pub IsAlone : Session → Type 0
IsAlone (Single state) = Unit {0}
IsAlone (Hosted at) = ⊥

-- a host's
abbrev pub IsHost : Session → Type 0
IsHost (Single state) = ⊥
IsHost (Hosted at) = Unit {0}

-- the script is that of the one process
abbrev pub IsScriptIn : Script → Session → Type 0
IsScriptIn script (Single state) = ScriptStandsFor script state
IsScriptIn script (Hosted at) = ⊥

-- the host is that of the session
abbrev pub IsHostIn : HostState → Session → Type 0
IsHostIn host (Single state) = ⊥
IsHostIn host (Hosted at) = (host.blank.machine ≡ at.machine) × (host.blank.bounds ≡ at.bounds)
    × HostStandsFor host at.history

-- the pages are those of the session's host
abbrev pub AreHostPages : HostPages → Session → Type 0
AreHostPages pages (Single state) = ⊥
AreHostPages pages (Hosted at) = HostLies pages at.lying × AreOf at.lying at.history

-- nothing is kept of the pages of a process, and none is there
abbrev pub IsBare : ℕ → Session → Type 0
IsBare process (Single state) = Unit {0}
IsBare process (Hosted at) = (page : ℕ) → (pages_at at process).spots page ≡ Nowhere

-- the pages of a process lie as they are kept
abbrev pub ArePagesOf : PageState → ℕ → Session → Type 0
ArePagesOf kept process (Single state) = ⊥
ArePagesOf kept process (Hosted at) = LieThere kept (pages_at at process).spots

-- ---- a line of a host

-- a line that a process is told
abbrev pub told : ℕ → Line → ScriptLine
told process said = record { process = Some process; line = said }

-- the host once a line came to this
abbrev pub hosting_with : Hosting → Outcome → Hosting
hosting_with at done = record at { history = done.history; lying = done.lying }

-- the line was answered by a reply, as the outcome says, and all is as it says
abbrev pub Replies : RunningHost → Reply → RunningHost → (HostLack → Hosting → Outcome) → Type 0
Replies old answer new outcome = (at : Hosting) → RunsAs old at
    → (lack : HostLack) × (Some answer ≡ reply_in (outcome lack at).answer)
    × RunsAs new (hosting_with at (outcome lack at))

-- the same where the process is there, and the host takes more commands
abbrev pub RepliesThere : RunningHost → Reply → RunningHost → ℕ → (HostLack → Hosting → Outcome)
    → Type 0
RepliesThere old answer new process outcome = (at : Hosting) → RunsAs old at
    → takes_more at process ≡ true
    → (lack : HostLack) × (Some answer ≡ reply_in (outcome lack at).answer)
    × RunsAs new (hosting_with at (outcome lack at))

-- the same of a line that may have no reply, and then tells what pages of a process did
abbrev pub Changes : RunningHost → Option Reply → RunningHost → ℕ → (Lack → Hosting → Outcome)
    → Type 0
Changes old told new process outcome = (at : Hosting) → RunsAs old at
    → (lacked : Lack) × ((outcome lacked at).answer ≡ told_by told
    (length (outcome lacked at).history) process (outcome lacked at).lying)
    × RunsAs new (hosting_with at (outcome lacked at))

-- what was taken is the reply, or what the pools have then
abbrev pub ComesTo : RunningHost → HostTaken → RunningHost → (HostLack → Hosting → Outcome)
    → Type 0
ComesTo old (taken.Reply answer) new outcome = Replies old answer new outcome
ComesTo old taken.Pools new outcome = (at : Hosting) → RunsAs old at → (lack : HostLack)
    × (Shown (pools_line (outcome lack at).lying.huge.pools) ≡ (outcome lack at).answer)
    × RunsAs new (hosting_with at (outcome lack at))
ComesTo old _ new outcome = ⊥

-- pages are so once one was touched, which is answered so
abbrev pub FaultsSo : Option Reply × HostLying → Reply → HostPages → Type 0
FaultsSo done answer new = (done.0 ≡ Some answer) × HostLies new done.1

-- pages of both sizes of a process were touched, as the outcome says by what it lacked
abbrev pub PopulatesIn : HostLying → ℕ → Ground → ℕ → ℕ → ℕ → ℕ
    → Result (Unit {0}) PlacedRefusal → HostPages → Type 0
PopulatesIn at process basis start bytes task cpu result new = IsSomeAnd (memory_of process at)
    (λ memory. (lacked : Lack)
    × ((populated_both lacked basis process start bytes task cpu memory at).0 ≡ result)
    × HostLies new (populated_both lacked basis process start bytes task cpu memory at).1)

-- the same while those of 4 KiB are lent
abbrev pub PopulatesBoth : HugeKept → PageState → Result (Unit {0}) PlacedRefusal → HugeKept
    → PageState → ℕ → Ground → ℕ → ℕ → ℕ → ℕ → Type 0
PopulatesBoth huge state result huge_then state_then process basis start bytes task cpu =
    (at : Sharing) (lying : Lying) → HugeLies huge at → LiesAs state lying
    → IsSomeAnd (memory_in process at) (λ memory. (lacked : Lack)
    × ((both_populated lacked basis start bytes task cpu memory
    (record lying { begun = true })).0 ≡ result)
    × LiesAs state_then (both_populated lacked basis start bytes task cpu memory
    (record lying { begun = true })).1.0
    × HugeLies huge_then (huge_back process (both_populated lacked basis start bytes task cpu
    memory (record lying { begun = true })).1.1 at))

-- a span was mapped for whose pages the process's are so then, unless the host refuses the command
abbrev pub MapsMade : RunningHost → Reply → RunningHost → ℕ → Command → HugeLying → Type 0
MapsMade old answer new process said pages = Replies old answer new (λ lack at. command_unless
    (cause_by lack.lacked at (In process said)) (with_huge process
    (record (begun_in process at.lying.huge) { pages = pages }) at.lying) at (In process said))

-- the same of the pages alone
abbrev pub ChangesPages : HostPages → Option Reply → HostPages
    → (Lack → HostLying → Option Reply × HostLying) → Type 0
ChangesPages old told new outcome = (at : HostLying) → HostLies old at
    → (lacked : Lack) × ((outcome lacked at).0 ≡ told) × HostLies new (outcome lacked at).1

-- the pages of a process were taken out, or are the first that it has
abbrev pub IsOut : HostPages → PageState → Bool → ℕ → HostLying → Type 0
IsOut pages state first process at = (first ≡ not (is_some (pages_in process at.homes)))
    × LiesAs state (pages_lent process at)
    × HostLies pages (record at { homes = with_pages process None at.homes })

-- nothing is stated any more of a span of a process that has such pages, where something was
abbrev pub ForgetsIn : Option Lying → (ℕ → Spot) → ℕ → ℕ
    → Result (Option Laid) PlacedRefusal → Type 0
ForgetsIn had spots start bytes (Ok None) = has_stated spots start bytes ≡ false
ForgetsIn had spots start bytes (Ok (Some after)) =
    (has_stated spots start bytes ≡ true) × IsSome had
    × ((page : ℕ) → spot_at after page ≡ forgotten start bytes spots page)
ForgetsIn had spots start bytes (Err why) = (has_stated spots start bytes ≡ true)
    × (lack_of (lack_told why) (forgotten start bytes spots) ≡ Some why)

-- pages of both sizes of a process are so once a span was unmapped, unless the host refuses that
abbrev pub UnmapsBoth : RunningHost → Reply → RunningHost → ℕ → ℕ → ℕ → Option Laid → HugeLying
    → Type 0
UnmapsBoth old answer new process start bytes small huge = (at : Hosting) (memory : HugeMemory)
    → RunsAs old at
    → ForgetsIn (pages_in process at.lying.homes) (pages_at at process).spots start bytes (Ok small)
    → memory_at at process ≡ Some memory → huge ≡ (unmapped_in start bytes memory).pages
    → (lack : HostLack) × (Some answer ≡ reply_in (huge_unmap lack.lacked at process start bytes
    memory).answer) × RunsAs new (hosting_with at (huge_unmap lack.lacked at process start bytes
    memory))

-- ---- mbind .. move

-- the host's machine and limits are these, and it stands for the commands
pub record HostRuns (host : HostState) (at : Hosting) : Type 0 where
  pub machine : host.blank.machine ≡ at.machine
  pub bounds : host.blank.bounds ≡ at.bounds
  pub stands : HostStandsFor host at.history

-- the policy was set, and pages that were lent went; or it was answered so, and they are as they
-- were
abbrev pub SendsOf : Hosting → HostState → HugeKept → PageState → Result Reply Reply → HostState
    → HugeKept → PageState → ℕ → Rebinding → MoveWords → Type 0
SendsOf at old huge before (Ok answer) new huge_then after process said words = HostRuns old at
    → HugeLies huge at.lying.huge → takes_more at process ≡ true
    → LiesAs before (pages_at at process) → (done : Lying) × (shared : Sharing)
    × (sent_unless Enough (own_cause at process (command_of said)) at process said words ≡ record {
      answer = Replied answer;
      history = In process (command_of said) ∷ at.history;
      lying = taken_along process (record (lying_with at process done) { huge = shared });
    })
    × HostRuns new (record at { history = In process (command_of said) ∷ at.history })
    × LiesAs after done × HugeLies huge_then shared
SendsOf at old huge before (Err answer) new huge_then after process said words = HostRuns old at
    → HugeLies huge at.lying.huge → takes_more at process ≡ true
    → LiesAs before (pages_at at process) → (lacked : Lack)
    × (sent_unless lacked (own_cause at process (command_of said)) at process said words
    ≡ with_reply answer at)
    × HostRuns new at × (after ≡ before) × HugeLies huge_then at.lying.huge

abbrev pub SendsIn : HostState → HugeKept → PageState → Result Reply Reply → HostState → HugeKept
    → PageState → ℕ → Rebinding → MoveWords → Type 0
SendsIn old huge before result new huge_then after process said words = (at : Hosting)
    → SendsOf at old huge before result new huge_then after process said words

-- the same, once pages of 4 KiB have been found that go
abbrev pub IsFoundIn : Hosting → ℕ → Rebinding → MoveWords → Sending → Type 0
IsFoundIn at process said words sent = (own_cause at process (command_of said) ≡ None)
    × HasSent sent [] (asked_of (process_in at process) said (toucher_of words))
    (pages_at at process)

abbrev pub SendsFound : HostState → HugeKept → PageState → Result Reply Reply → HostState
    → HugeKept → PageState → ℕ → Rebinding → MoveWords → Sending → Type 0
SendsFound old huge before result new huge_then after process said words sent = (at : Hosting)
    → IsFoundIn at process said words sent
    → SendsOf at old huge before result new huge_then after process said words

-- and pages of 2 MiB
abbrev pub SettlesIn : HostState → HugeKept → PageState → Result Reply Reply → HostState
    → HugeKept → PageState → ℕ → Rebinding → MoveWords → Sending → HugePlaced → Flows → Type 0
SettlesIn old huge before result new huge_then after process said words sent places flows =
    (at : Hosting) (memory : HugeMemory) → IsFoundIn at process said words sent
    → memory_at at process ≡ Some memory
    → IsWalk (huge_walk (process_in at process) said (toucher_of words) memory) places flows
    → SendsOf at old huge before result new huge_then after process said words

-- it was answered so, and all is as the definition says
abbrev pub IsSentTo : Reply → RunningHost → Hosting → ℕ → Rebinding → MoveWords → Type 0
IsSentTo answer new at process said words = (lack : HostLack)
    × (Some answer ≡ reply_in (sent_unless lack.lacked (own_cause at process (command_of said))
    at process said words).answer)
    × RunsAs new (hosting_with at (sent_unless lack.lacked
    (own_cause at process (command_of said)) at process said words))

-- a command was carried out, and answered so
abbrev pub IsReplyTo : Result (Unit {0}) HostRefusal → HostState → Reply → Type 0
IsReplyTo (Ok done) new answer = answer ≡ reply.Accepted new.version
IsReplyTo (Err why) new answer = answer ≡ reply.HostRefused why

abbrev pub Answers : HostState → HostCommand → Reply → HostState → Type 0
Answers old said answer new = (done : Result (Unit {0}) HostRefusal)
    × IsHostApplied old said done new × IsReplyTo done new answer

-- what was taken is the reply that the definition says, or the line itself, which changes nothing;
-- of `populate` it is the answer, which the pages after it tell
abbrev pub IsTakenIn : HostLack → Hosting → ScriptLine → HostTaken → Type 0
IsTakenIn lack at said (taken.Reply answer) =
    Some answer ≡ reply_in (host_outcome lack at said).answer
IsTakenIn lack at said (taken.Asked process asked) = said ≡ told process (line.Question asked)
IsTakenIn lack at said (taken.Listed process task) = said ≡ told process (line.Maps task)
IsTakenIn lack at said (taken.Moved process) = said ≡ told process (line.Pages (Ok page.Moved))
IsTakenIn lack at said taken.MovedAll = said ≡ alone (line.Pages (Ok page.Moved))
IsTakenIn lack at said taken.Rooms = said ≡ alone (line.Pages (Ok page.Rooms))
IsTakenIn lack at said (taken.Arrived process) =
    (Shown (arrived_text (hosting_with at (host_outcome lack at said)) process)
    ≡ (host_outcome lack at said).answer)
    × (None ≡ refused_by said.process lack.lacked at said.line)
IsTakenIn lack at said taken.Pools =
    (Shown (pools_line (host_outcome lack at said).lying.huge.pools)
    ≡ (host_outcome lack at said).answer) × (None ≡ refused_by said.process lack.lacked at said.line)
IsTakenIn lack at said (taken.Own found) = ⊥

abbrev pub Takes : RunningHost → ScriptLine → HostTaken → RunningHost → Type 0
Takes old said found new = (at : Hosting) → RunsAs old at
    → (lack : HostLack) × IsTakenIn lack at said found
    × RunsAs new (hosting_with at (host_outcome lack at said))
