-- What judging a line that was taken comes to.
use Rattle.std.proofs.Common.{◌≡◌, ℕ, Bool, true, false, Option, Some, None, List}
use Rattle.std.proofs.Common.{refl, sym, ap, subst, ◌∙◌}
use Rattle.std.specs.Option.{option_map}
use Rattle.numa_machine.specs.Machine.{Hardware}
use Rattle.numa_space.specs.Limited.{Bounds}
use Rattle.numa_space.specs.Standing.{SpaceState, StandsFor}
use Rattle.numa_host.specs.Processes.{commands_of, is_there, members_of}
use Rattle.numa_host.specs.Standing.{HostStandsFor}
use Rattle.numa_requests.specs.declared.command.Command.{Command}
use Rattle.numa_requests.specs.declared.event.CoreRefusal.{CoreRefusal}
use Rattle.numa_requests.specs.declared.host_command.HostCommand.{HostCommand}
use Rattle.numa_requests.specs.declared.host_refusal.HostRefusal.TheVariants.{NoSuchProcess}
use Rattle.numa_page_state.specs.Outcomes.{Lack, is_starved}
use Rattle.numa_script.specs.Replies.{fault_in}
use Rattle.numa_script.specs.declared.line.Line.TheVariants as line
use Rattle.numa_script.specs.declared.line.Question.{Question}
use Rattle.numa_script.specs.declared.line.ScriptLine.{ScriptLine}
use Rattle.numa_script.specs.declared.reply.Reply.{Reply}
use Rattle.numa_script.specs.declared.reply.Reply.TheVariants as reply
use Rattle.numa_run.specs.Judged.{question_cause}
use Rattle.numa_run.specs.Scripts.{ScriptTells}
use Rattle.numa_run.specs.declared.running.Taken.{Taken}
use Rattle.numa_run.specs.declared.running.Taken.TheVariants as own
use Rattle.numa_run.specs.declared.script.Script.{Script}
use Rattle.numa_host_script.specs.Hosts.{plenty}
use Rattle.numa_host_script.specs.Judged.{session_fault}
use Rattle.numa_host_script.specs.Sessions.{Hosted, HostLack, Session, Single, session_after}
use Rattle.numa_host_script.specs.Standing.{StandsIn, told}
use Rattle.numa_host_script.specs.Taking.{IsLeft, Left, Open, Pooled, Told, Touched, fault_left}
use Rattle.numa_host_script.specs.Taking.{left_in, misplaced_reply}
use Rattle.numa_host_script.specs.declared.running.RunningHost.{RunningHost}
use Rattle.numa_host_script.specs.declared.taking.HostTaken.{HostTaken}
use Rattle.numa_host_script.specs.declared.taking.HostTaken.TheVariants as taken
use Rattle.numa_host_script.proofs.Left.{asked-fault_where, asks_moved, foreign-asked}
use Rattle.numa_host_script.proofs.Left.{foreign-listed, foreign-moved, IsSpaceOf}
use Rattle.numa_host_script.proofs.Left.{listed-fault_where, misplaced-fault, misplaced_fault}
use Rattle.numa_host_script.proofs.Left.{moved-fault_where, own-fault, pooled-fault, stays, Stays}
use Rattle.numa_host_script.proofs.Left.{told-fault, touched-fault}
use Rattle.numa_host_script.proofs.Taken.{lack_of}

-- what was left in a session was judged
abbrev pub TellsAt : Left → Option Reply → Script → Bounds → Option RunningHost → Session → Type 0
TellsAt left fault script limits host session = (lack : HostLack)
    × StandsIn script limits host session × (fault ≡ fault_left lack session left)

pub told-own : (old new : Script) (limits : Bounds) (found : Taken) (fault : Option Reply)
    (session : Session) → ScriptTells old found fault new → StandsIn old limits None session
    → TellsAt (left_in (taken.Own found)) fault new limits None session
told-own old new limits found fault (Hosted at) tells stands = absurd stands
told-own old new limits found fault (Single state) tells stands =
    let t = tells state stands.0 in
    (lack_of t.0, (t.2, stands.1), t.1 ∙ own-fault (lack_of t.0) state found)

pub told-misplaced : (script : Script) (limits : Bounds) (host : RunningHost) (found : Taken)
    (shown : Option Reply) (session : Session) → shown ≡ misplaced_reply found
    → StandsIn script limits (Some host) session → TellsAt (left_in (taken.Own found))
    (misplaced_fault shown) script limits (Some host) session
told-misplaced script limits host found shown (Single state) is stands = absurd stands
told-misplaced script limits host found shown (Hosted at) is stands =
    (plenty, stands, ap misplaced_fault is ∙ misplaced-fault plenty at found)

-- pages that were touched tell nothing of this, but where there is no host
pub told-arrived : (script : Script) (limits : Bounds) (host : RunningHost) (process : ℕ)
    (session : Session) → StandsIn script limits (Some host) session
    → TellsAt (left_in (taken.Arrived process)) None script limits (Some host) session
told-arrived script limits host process (Single state) stands = absurd stands
told-arrived script limits host process (Hosted at) stands = (plenty, stands, refl)

pub told-early : (old new : Script) (limits : Bounds) (process : ℕ) (fault : Option Reply)
    (session : Session) → ScriptTells old own.Arrived fault new
    → StandsIn old limits None session
    → TellsAt (left_in (taken.Arrived process)) fault new limits None session
told-early old new limits process fault (Hosted at) tells stands = absurd stands
told-early old new limits process fault (Single state) tells stands =
    told-own old new limits own.Arrived fault (Single state) tells stands

-- a question of a process was judged
abbrev pub AskedAt : ℕ → Question → Option Reply → Session → Type 0
AskedAt process asked fault session = (lack : HostLack)
    × (fault ≡ session_fault lack session (told process (line.Question asked)))

pub told-foreign : (script : Script) (limits : Bounds) (process : ℕ) (asked : Question)
    (session : Session) → StandsIn script limits None session
    → AskedAt process asked (Some reply.BadWords) session
told-foreign script limits process asked (Hosted at) stands = absurd stands
told-foreign script limits process asked (Single state) stands = (
  plenty,
  told-fault plenty (Single state) (told process (line.Question asked)) reply.BadWords
      (foreign-asked state process asked),
)

pub told-nobody : (script : Script) (limits : Bounds) (host : RunningHost) (process : ℕ)
    (asked : Question) (session : Session)
    → ((history : List HostCommand) → HostStandsFor host.host history
    → is_there (members_of history) process ≡ false)
    → StandsIn script limits (Some host) session
    → AskedAt process asked (Some (reply.HostRefused NoSuchProcess)) session
told-nobody script limits host process asked (Single state) gone stands = absurd stands
told-nobody script limits host process asked (Hosted at) gone stands = (
  plenty,
  sym (asked-fault_where false plenty at process asked (gone at.history stands.stands)),
)

pub told-there : (script : Script) (limits : Bounds) (host : RunningHost) (process : ℕ)
    (asked : Question) (space : SpaceState) (cause : Option CoreRefusal) (session : Session)
    → IsSpaceOf host.host process space
    → ((history : List Command) → StandsFor space history → (lacked : Lack)
    × (cause ≡ question_cause (is_starved lacked) space.machine history asked))
    → StandsIn script limits (Some host) session
    → AskedAt process asked (option_map reply.Refused cause) session
told-there script limits host process asked space cause (Single state) there judges stands =
    absurd stands
told-there script limits host process asked space cause (Hosted at) there judges stands =
    let here = there at.history stands.stands in
    let machine : space.machine ≡ at.machine = here.1 ∙ stands.machine in
    let history = commands_of at.machine at.history process in
    let stood : StandsFor space (commands_of at.machine at.history process) =
    subst (λ (m : Hardware). StandsFor space (commands_of m at.history process)) stands.machine
    here.2 in
    let why = judges history stood in (
      lack_of why.0,
      ap (option_map reply.Refused)
          (why.1 ∙ ap (λ (m : Hardware). question_cause (is_starved why.0) m history
          asked) machine)
          ∙ sym (asked-fault_where true (lack_of why.0) at process asked here.0),
    )

-- a listing of a process was judged
abbrev pub ListedAt : ℕ → Option Reply → Session → Type 0
ListedAt process fault session =
    (task : ℕ) → fault ≡ session_fault plenty session (told process (line.Maps task))

pub unlisted-foreign : (script : Script) (limits : Bounds) (process : ℕ) (session : Session)
    → StandsIn script limits None session → ListedAt process (Some reply.BadWords) session
unlisted-foreign script limits process (Hosted at) stands = absurd stands
unlisted-foreign script limits process (Single state) stands = λ task.
    told-fault plenty (Single state) (told process (line.Maps task)) reply.BadWords
    (foreign-listed state process task)

pub unlisted-nobody : (script : Script) (limits : Bounds) (host : RunningHost) (process : ℕ)
    (session : Session) → ((history : List HostCommand) → HostStandsFor host.host history
    → is_there (members_of history) process ≡ false)
    → StandsIn script limits (Some host) session
    → ListedAt process (Some (reply.HostRefused NoSuchProcess)) session
unlisted-nobody script limits host process (Single state) gone stands = absurd stands
unlisted-nobody script limits host process (Hosted at) gone stands = λ task.
    sym (listed-fault_where false plenty at process task (gone at.history stands.stands))

pub listed-well : (script : Script) (limits : Bounds) (host : RunningHost) (process : ℕ)
    (space : SpaceState) (session : Session) → IsSpaceOf host.host process space
    → StandsIn script limits (Some host) session → ListedAt process None session
listed-well script limits host process space (Single state) there stands = absurd stands
listed-well script limits host process space (Hosted at) there stands = λ task.
    sym (listed-fault_where true plenty at process task (there at.history stands.stands).0)

-- what the last move of a process did was judged
abbrev pub MovedAt : ℕ → Option Reply → Session → Type 0
MovedAt process fault session = fault ≡ session_fault plenty session (asks_moved process)

pub unmoved-foreign : (script : Script) (limits : Bounds) (process : ℕ) (session : Session)
    → StandsIn script limits None session → MovedAt process (Some reply.BadWords) session
unmoved-foreign script limits process (Hosted at) stands = absurd stands
unmoved-foreign script limits process (Single state) stands =
    told-fault plenty (Single state) (asks_moved process) reply.BadWords
    (foreign-moved state process)

pub unmoved-nobody : (script : Script) (limits : Bounds) (host : RunningHost) (process : ℕ)
    (session : Session) → ((history : List HostCommand) → HostStandsFor host.host history
    → is_there (members_of history) process ≡ false)
    → StandsIn script limits (Some host) session
    → MovedAt process (Some (reply.HostRefused NoSuchProcess)) session
unmoved-nobody script limits host process (Single state) gone stands = absurd stands
unmoved-nobody script limits host process (Hosted at) gone stands =
    sym (moved-fault_where false plenty at process (gone at.history stands.stands))

pub moved-well : (script : Script) (limits : Bounds) (host : RunningHost) (process : ℕ)
    (space : SpaceState) (session : Session) → IsSpaceOf host.host process space
    → StandsIn script limits (Some host) session → MovedAt process None session
moved-well script limits host process space (Single state) there stands = absurd stands
moved-well script limits host process space (Hosted at) there stands =
    sym (moved-fault_where true plenty at process (there at.history stands.stands).0)

-- a line was taken, and then judged
abbrev pub JudgesAt : ScriptLine → Option Reply → Script → Bounds → Option RunningHost → Session
    → Type 0
JudgesAt said fault script limits host session = (lack : HostLack)
    × StandsIn script limits host (session_after lack session said)
    × (fault ≡ session_fault lack session said)

module _ (mid : Script) (mid_limits : Bounds) (mid_host : Option RunningHost)
    (new : Script) (new_limits : Bounds) (new_host : Option RunningHost) where
  judged-left : (said : ScriptLine) (left : Left) (fault : Option Reply) (session : Session)
      → ((lack : HostLack) → Stays lack session left)
      → (lack : HostLack) × StandsIn mid mid_limits mid_host (session_after lack session said)
      × IsLeft lack session said left
      → ((then : Session) → StandsIn mid mid_limits mid_host then
      → TellsAt left fault new new_limits new_host then)
      → JudgesAt said fault new new_limits new_host session
  judged-left said (Told answer) fault session same t tells =
      let w = tells (session_after t.0 session said) t.1 in
      (t.0, w.1, w.2 ∙ told-fault t.0 session said answer t.2)
  judged-left said (Touched process) fault session same t tells =
      let w = tells (session_after t.0 session said) t.1 in
      (t.0, w.1, w.2 ∙ touched-fault t.0 w.0 session said process t.2)
  judged-left said Pooled fault session same t tells =
      let w = tells (session_after t.0 session said) t.1 in
      (t.0, w.1, w.2 ∙ pooled-fault t.0 w.0 session said t.2)
  judged-left said (Open shown) fault session same t tells =
      let still = ap (session_after t.0 session) t.2 ∙ same t.0 in
      let w = tells session (subst (StandsIn mid mid_limits mid_host) still t.1) in
      subst (λ (s : ScriptLine). JudgesAt s fault new new_limits new_host session) (sym t.2)
      (w.0, subst (StandsIn new new_limits new_host) (sym (same w.0)) w.1, w.2)

  pub judged-line : (said : ScriptLine) (found : HostTaken) (fault : Option Reply)
      (session : Session)
      → (lack : HostLack) × StandsIn mid mid_limits mid_host (session_after lack session said)
      × IsLeft lack session said (left_in found)
      → ((then : Session) → StandsIn mid mid_limits mid_host then
      → TellsAt (left_in found) fault new new_limits new_host then)
      → JudgesAt said fault new new_limits new_host session
  judged-line said found fault session t tells =
      judged-left said (left_in found) fault session (λ lack. stays lack session found) t
      tells
