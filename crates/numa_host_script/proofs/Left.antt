-- What is left of a line that was taken.
use Rattle.std.proofs.Common.{◌≡◌, ℕ, Bool, true, false, Option, Some, None, List, refl}
use Rattle.std.proofs.Common.{sym, ap, subst, ◌∙◌}
use Rattle.std.specs.Prelude.{IsSomeAnd, Ok}
use Rattle.numa_space.specs.Limited.{Bounds}
use Rattle.numa_space.specs.Standing.{SpaceState, StandsFor}
use Rattle.numa_host.specs.Processes.{commands_of, is_there, members_of}
use Rattle.numa_host.specs.Standing.{HostState, HostStandsFor}
use Rattle.numa_page_state.specs.Outcomes.{Enough, Lack}
use Rattle.numa_requests.specs.declared.host_command.HostCommand.{HostCommand}
use Rattle.numa_script.specs.Lines.{alone}
use Rattle.numa_script.specs.Replies.{LacksMemory, fault_in}
use Rattle.numa_script.specs.declared.line.Line.TheVariants as line
use Rattle.numa_script.specs.declared.line.Question.{Question}
use Rattle.numa_script.specs.declared.line.ScriptLine.{ScriptLine}
use Rattle.numa_script.specs.declared.page_line.PageLine.TheVariants as page
use Rattle.numa_script.specs.declared.reply.Reply.{Reply}
use Rattle.numa_script.specs.declared.reply.Reply.TheVariants as reply
use Rattle.numa_run.specs.Answers.{State, after}
use Rattle.numa_run.specs.Judged.{fault_or}
use Rattle.numa_run.specs.Replies.{Answer, Replied, Shown, Served as Played, reply_in}
use Rattle.numa_run.specs.Scripts.{answer_left as own_answer_left, fault_left as own_fault_left}
use Rattle.numa_run.specs.declared.running.Taken.{Taken}
use Rattle.numa_run.specs.declared.script.Script.{Script}
use Rattle.numa_run.specs.declared.running.Taken.TheVariants as own
use Rattle.numa_run.proofs.JudgeLemmas.{last_text, moved-text, rooms-text, rooms_left}
use Rattle.numa_run.proofs.Taking.{malformed-is, maps-same, question-same, text-same}
use Rattle.numa_host_script.specs.declared.lines.Shows.{Shows}
use Rattle.numa_host_script.specs.Hosts.{plenty}
use Rattle.numa_host_script.specs.Judged.{Starves, refused_where, session_fault}
use Rattle.numa_host_script.specs.Judged.{session_refused}
use Rattle.numa_host_script.specs.Paging.{page_where, shown_text}
use Rattle.numa_host_script.specs.Sessions.{Hosted, Hosting, HostLack, Session, Single}
use Rattle.numa_host_script.specs.Sessions.{asked_where, listed_where, session_after}
use Rattle.numa_host_script.specs.Sessions.{session_served}
use Rattle.numa_host_script.specs.Standing.{StandsIn, told}
use Rattle.numa_host_script.specs.Taking.{IsLeft, Left, Open, Pooled, Told, Touched, answer_left}
use Rattle.numa_host_script.specs.Taking.{fault_left, left_in, misplaced_reply, shown_by}
use Rattle.numa_host_script.specs.declared.running.RunningHost.{RunningHost}
use Rattle.numa_host_script.specs.declared.taking.HostTaken.{HostTaken}
use Rattle.numa_host_script.specs.declared.taking.HostTaken.TheVariants as taken
use Rattle.numa_host_script.proofs.Taken.{asked-still, listed-still, moved-still}

-- an answer that is a reply is the line's, and so is the fault that it tells
pub told-answer : (lack : HostLack) (session : Session) (said : ScriptLine) (answer : Reply)
    → Some answer ≡ reply_in (session_served lack session said).answer
    → Replied answer ≡ (session_served lack session said).answer
told-answer lack session said answer is =
    by_answer (session_served lack session said).answer is
  where
    by_answer : (given : Answer) → Some answer ≡ reply_in given → Replied answer ≡ given
    by_answer (Replied other) e = cc
    by_answer (Shown text) e = cc

pub told-fault : (lack : HostLack) (session : Session) (said : ScriptLine) (answer : Reply)
    → Some answer ≡ reply_in (session_served lack session said).answer
    → fault_in answer ≡ session_fault lack session said
told-fault lack session said answer is =
    ap (λ (o : Option Reply). fault_or o (session_refused lack session said)) is

-- what was touched tells the line's fault
pub touched-fault : (lack then_lack : HostLack) (session : Session) (said : ScriptLine)
    (process : Option ℕ) → IsLeft lack session said (Touched process)
    → fault_left then_lack (session_after lack session said) (Touched process)
    ≡ session_fault lack session said
touched-fault lack then_lack session said process left =
    λ i. fault_or (reply_in (left.0 i)) (left.1 i)

-- so do the pools
pub pooled-fault : (lack then_lack : HostLack) (session : Session) (said : ScriptLine)
    → IsLeft lack session said Pooled
    → fault_left then_lack (session_after lack session said) Pooled
    ≡ session_fault lack session said
pooled-fault lack then_lack session said left =
    λ i. fault_or (reply_in (left.0 i)) (left.1 i)

-- a reply that is written as bad words, where there is no host
malformed-here : (state : State) (said : ScriptLine) (process : ℕ) → said.process ≡ Some process
    → Some reply.BadWords ≡ reply_in (session_served plenty (Single state) said).answer
unfolding session_served
malformed-here state said process is =
    rw is (sym (ap (λ (r : Played). reply_in r.answer) (malformed-is Enough state)))

pub foreign-asked : (state : State) (process : ℕ) (asked : Question) → Some reply.BadWords
    ≡ reply_in (session_served plenty (Single state) (told process (line.Question asked))).answer
foreign-asked state process asked =
    malformed-here state (told process (line.Question asked)) process refl

pub foreign-listed : (state : State) (process task : ℕ) → Some reply.BadWords
    ≡ reply_in (session_served plenty (Single state) (told process (line.Maps task))).answer
foreign-listed state process task =
    malformed-here state (told process (line.Maps task)) process refl

-- `moved` of a process
abbrev pub asks_moved : ℕ → ScriptLine
asks_moved process = told process (line.Pages (Ok page.Moved))

pub foreign-moved : (state : State) (process : ℕ) → Some reply.BadWords
    ≡ reply_in (session_served plenty (Single state) (asks_moved process)).answer
foreign-moved state process = malformed-here state (asks_moved process) process refl

-- lines of one process, as that script answers them
pub own-answer : (lack : HostLack) (state : State) (found : Taken)
    → own_answer_left lack.lacked state found
    ≡ answer_left lack (Single state) (left_in (taken.Own found))
unfolding session_served
own-answer lack state (own.Reply answer) = refl
own-answer lack state (own.Question asked) = refl
own-answer lack state (own.Maps task) = refl
own-answer lack state own.Moved = refl
own-answer lack state own.Rooms = refl
own-answer lack state own.Arrived = refl
own-answer lack state own.Pools = refl

pub own-fault : (lack : HostLack) (state : State) (found : Taken)
    → own_fault_left lack.lacked state found
    ≡ fault_left lack (Single state) (left_in (taken.Own found))
unfolding session_served
own-fault lack state (own.Reply answer) = refl
own-fault lack state (own.Question asked) = refl
own-fault lack state (own.Maps task) = refl
own-fault lack state own.Moved = refl
own-fault lack state own.Rooms = refl
own-fault lack state own.Arrived = refl
own-fault lack state own.Pools = refl

-- and as a host does: by a reply, by what its last move did, its pools, or its rooms
abbrev pub misplaced_as : Option Reply → Shows → Hosting → Answer
misplaced_as (Some answer) asks at = Replied answer
misplaced_as None asks at = Shown (shown_text asks at)

abbrev pub misplaced_fault : Option Reply → Option Reply
misplaced_fault (Some answer) = fault_in answer
misplaced_fault None = None

pub misplaced-answer : (lack : HostLack) (at : Hosting) (found : Taken)
    → misplaced_as (misplaced_reply found) (shown_by found) at
    ≡ answer_left lack (Hosted at) (left_in (taken.Own found))
unfolding session_served
misplaced-answer lack at (own.Reply answer) = refl
misplaced-answer lack at (own.Question asked) = refl
misplaced-answer lack at (own.Maps task) = refl
misplaced-answer lack at own.Moved = refl
misplaced-answer lack at own.Rooms = refl
misplaced-answer lack at own.Arrived = refl
misplaced-answer lack at own.Pools = refl

pub misplaced-fault : (lack : HostLack) (at : Hosting) (found : Taken)
    → misplaced_fault (misplaced_reply found)
    ≡ fault_left lack (Hosted at) (left_in (taken.Own found))
unfolding session_served
misplaced-fault lack at (own.Reply answer) = refl
misplaced-fault lack at (own.Question asked) = refl
misplaced-fault lack at (own.Maps task) = refl
misplaced-fault lack at own.Moved = refl
misplaced-fault lack at own.Rooms = refl
misplaced-fault lack at own.Arrived = refl
misplaced-fault lack at own.Pools = refl

-- a question of a process, where it is there or not
asked-answer : (lack : HostLack) (at : Hosting) (process : ℕ) (asked : Question)
    → (session_served lack (Hosted at) (told process (line.Question asked))).answer
    ≡ (asked_where (is_there (members_of at.history) process) lack.lacked at process asked).answer
unfolding session_served
asked-answer lack at process asked = refl

listed-answer : (lack : HostLack) (at : Hosting) (process task : ℕ)
    → (session_served lack (Hosted at) (told process (line.Maps task))).answer
    ≡ (listed_where (is_there (members_of at.history) process) at process task).answer
unfolding session_served
listed-answer lack at process task = refl

moved-answer : (lack : HostLack) (at : Hosting) (process : ℕ)
    → (session_served lack (Hosted at) (asks_moved process)).answer
    ≡ (page_where (is_there (members_of at.history) process) lack.lacked at process
    page.Moved).answer
unfolding session_served
moved-answer lack at process = refl

pub asked-answer_where : (there : Bool) (lack : HostLack) (at : Hosting) (process : ℕ)
    (asked : Question) → is_there (members_of at.history) process ≡ there
    → (session_served lack (Hosted at) (told process (line.Question asked))).answer
    ≡ (asked_where there lack.lacked at process asked).answer
asked-answer_where there lack at process asked is = asked-answer lack at process asked
    ∙ ap (λ (b : Bool). (asked_where b lack.lacked at process asked).answer) is

pub listed-answer_where : (there : Bool) (lack : HostLack) (at : Hosting) (process task : ℕ)
    → is_there (members_of at.history) process ≡ there
    → (session_served lack (Hosted at) (told process (line.Maps task))).answer
    ≡ (listed_where there at process task).answer
listed-answer_where there lack at process task is = listed-answer lack at process task
    ∙ ap (λ (b : Bool). (listed_where b at process task).answer) is

pub moved-answer_where : (there : Bool) (lack : HostLack) (at : Hosting) (process : ℕ)
    → is_there (members_of at.history) process ≡ there
    → (session_served lack (Hosted at) (asks_moved process)).answer
    ≡ (page_where there lack.lacked at process page.Moved).answer
moved-answer_where there lack at process is = moved-answer lack at process
    ∙ ap (λ (b : Bool). (page_where b lack.lacked at process page.Moved).answer) is

pub asked-fault_where : (there : Bool) (lack : HostLack) (at : Hosting) (process : ℕ)
    (asked : Question) → is_there (members_of at.history) process ≡ there
    → session_fault lack (Hosted at) (told process (line.Question asked))
    ≡ fault_or (reply_in (asked_where there lack.lacked at process asked).answer)
    (refused_where there lack.lacked at process asked)
asked-fault_where there lack at process asked is =
    ap (λ (a : Answer). fault_or (reply_in a)
    (refused_where (is_there (members_of at.history) process) lack.lacked at process asked))
    (asked-answer_where there lack at process asked is)
    ∙ ap (λ (b : Bool).
    fault_or (reply_in (asked_where there lack.lacked at process asked).answer)
    (refused_where b lack.lacked at process asked)) is

pub listed-fault_where : (there : Bool) (lack : HostLack) (at : Hosting) (process task : ℕ)
    → is_there (members_of at.history) process ≡ there
    → session_fault lack (Hosted at) (told process (line.Maps task))
    ≡ fault_or (reply_in (listed_where there at process task).answer) None
listed-fault_where there lack at process task is =
    ap (λ (a : Answer). fault_or (reply_in a) None)
    (listed-answer_where there lack at process task is)

pub moved-fault_where : (there : Bool) (lack : HostLack) (at : Hosting) (process : ℕ)
    → is_there (members_of at.history) process ≡ there
    → session_fault lack (Hosted at) (asks_moved process)
    ≡ fault_or (reply_in (page_where there lack.lacked at process page.Moved).answer) None
moved-fault_where there lack at process is =
    ap (λ (a : Answer). fault_or (reply_in a) None) (moved-answer_where there lack at process is)

-- ---- a line whose answer is still open changes nothing

abbrev pub Stays : HostLack → Session → Left → Type 0
Stays lack session (Told answer) = Unit {0}
Stays lack session (Open said) = session_after lack session said ≡ session
Stays lack session (Touched process) = Unit {0}
Stays lack session Pooled = Unit {0}

malformed-same : (lacked : Lack) (state : State) → after lacked state line.Malformed ≡ state
malformed-same lacked state = ap (λ (r : Played). r.state) (malformed-is lacked state)

pub stays : (lack : HostLack) (session : Session) (found : HostTaken)
    → Stays lack session (left_in found)
unfolding session_served
stays lack session (taken.Reply answer) = tt
stays lack session (taken.Arrived process) = tt
stays lack session taken.Pools = tt
stays lack session (taken.Own (own.Reply answer)) = tt
stays lack session (taken.Own own.Arrived) = tt
stays lack session (taken.Own own.Pools) = tt
stays lack (Single state) (taken.Own (own.Question asked)) =
    ap Single (question-same lack.lacked state asked)
stays lack (Single state) (taken.Own (own.Maps task)) =
    ap Single (maps-same lack.lacked state task)
stays lack (Single state) (taken.Own own.Moved) =
    ap Single (text-same page.Moved last_text moved-text lack.lacked state)
stays lack (Single state) (taken.Own own.Rooms) =
    ap Single (text-same page.Rooms rooms_left rooms-text lack.lacked state)
stays lack (Single state) (taken.Asked process asked) =
    ap Single (malformed-same lack.lacked state)
stays lack (Single state) (taken.Listed process task) =
    ap Single (malformed-same lack.lacked state)
stays lack (Single state) (taken.Moved process) = ap Single (malformed-same lack.lacked state)
stays lack (Single state) taken.MovedAll =
    ap Single (text-same page.Moved last_text moved-text lack.lacked state)
stays lack (Single state) taken.Rooms =
    ap Single (text-same page.Rooms rooms_left rooms-text lack.lacked state)
stays lack (Hosted at) (taken.Own (own.Question asked)) = refl
stays lack (Hosted at) (taken.Own (own.Maps task)) = refl
stays lack (Hosted at) (taken.Own own.Moved) = refl
stays lack (Hosted at) (taken.Own own.Rooms) = refl
stays lack (Hosted at) (taken.Asked process asked) = ap Hosted
    (asked-still (is_there (members_of at.history) process) lack.lacked at process asked)
stays lack (Hosted at) (taken.Listed process task) =
    ap Hosted (listed-still (is_there (members_of at.history) process) at process task)
stays lack (Hosted at) (taken.Moved process) =
    ap Hosted (moved-still (is_there (members_of at.history) process) lack.lacked at process)
stays lack (Hosted at) taken.MovedAll = refl
stays lack (Hosted at) taken.Rooms = refl

-- a question of a line that names no process is left as it is
pub asked-left : (script : Script) (limits : Bounds) (host : Option RunningHost)
    (session : Session) (said : ScriptLine) (asked : Question)
    → said ≡ alone (line.Question asked)
    → StandsIn script limits host session → (lack : HostLack)
    × StandsIn script limits host (session_after lack session said)
    × IsLeft lack session said (left_in (taken.Own (own.Question asked)))
asked-left script limits host session said asked is stands =
    let same : session_after plenty session said ≡ session =
    ap (session_after plenty session) is ∙ stays plenty session (taken.Own (own.Question asked)) in
    (plenty, subst (StandsIn script limits host) (sym same) stands, is)

-- a listing wants no memory, nor does what a last move did
pub listed-unstarved : (session : Session) (process task : ℕ)
    → Starves plenty session (told process (line.Maps task)) → ⊥
listed-unstarved (Single state) process task starves =
    subst (λ (o : Option Reply). IsSomeAnd o LacksMemory)
    (sym (told-fault plenty (Single state) (told process (line.Maps task)) reply.BadWords
    (foreign-listed state process task))) starves
listed-unstarved (Hosted at) process task starves =
    by_there (is_there (members_of at.history) process)
    (subst (λ (o : Option Reply). IsSomeAnd o LacksMemory)
    (listed-fault_where (is_there (members_of at.history) process) plenty at process task refl)
    starves)
  where
    by_there : (there : Bool)
        → IsSomeAnd (fault_or (reply_in (listed_where there at process task).answer) None)
        LacksMemory → ⊥
    by_there true s = s
    by_there false s = cc

pub moved-unstarved : (session : Session) (process : ℕ)
    → Starves plenty session (asks_moved process) → ⊥
moved-unstarved (Single state) process starves =
    subst (λ (o : Option Reply). IsSomeAnd o LacksMemory)
    (sym (told-fault plenty (Single state) (asks_moved process) reply.BadWords
    (foreign-moved state process))) starves
moved-unstarved (Hosted at) process starves =
    by_there (is_there (members_of at.history) process)
    (subst (λ (o : Option Reply). IsSomeAnd o LacksMemory)
    (moved-fault_where (is_there (members_of at.history) process) plenty at process refl) starves)
  where
    by_there : (there : Bool) → IsSomeAnd
        (fault_or (reply_in (page_where there Enough at process page.Moved).answer) None)
        LacksMemory → ⊥
    by_there true s = s
    by_there false s = cc

-- the space of a process that is there, in a host
abbrev pub IsSpaceOf : HostState → ℕ → SpaceState → Type 0
IsSpaceOf host process space = (history : List HostCommand) → HostStandsFor host history
    → (is_there (members_of history) process ≡ true)
    × (space.machine ≡ host.blank.machine)
    × StandsFor space (commands_of host.blank.machine history process)
