-- What writing a line that was taken comes to.
use Rattle.std.proofs.Common.{◌≡◌, ℕ, Bool, true, false, Option, Some, None, List, []}
use Rattle.std.proofs.Common.{refl, sym, ap, subst, ◌∙◌}
use Rattle.std.specs.Prelude.{◌↔◌, IsSomeAnd, IsTrue, length}
use Rattle.numa_machine.specs.Machine.{Hardware}
use Rattle.numa_page_state.specs.Lying.{Process}
use Rattle.numa_page_state.specs.Outcomes.{Enough, Lack, Starved, is_starved}
use Rattle.numa_space.specs.Limited.{Bounds}
use Rattle.numa_space.specs.Standing.{SpaceState, StandsFor}
use Rattle.numa_host.specs.Processes.{commands_of, is_there, members_of}
use Rattle.numa_host.specs.Standing.{HostState, HostStandsFor}
use Rattle.numa_lines.proofs.Adding.{said_same}
use Rattle.numa_lines.specs.Written.{Said}
use Rattle.numa_lines.specs.declared.watched.Watched.{Watched}
use Rattle.numa_requests.specs.declared.command.Command.{Command}
use Rattle.numa_requests.specs.declared.host_command.HostCommand.{HostCommand}
use Rattle.numa_requests.specs.declared.host_refusal.HostRefusal.TheVariants.{NoSuchProcess}
use Rattle.numa_script.specs.Replies.{LacksMemory, fault_in}
use Rattle.numa_script.specs.Texts.{text_of}
use Rattle.numa_script.specs.declared.line.Line.TheVariants as line
use Rattle.numa_script.specs.declared.line.Question.{Question}
use Rattle.numa_script.specs.declared.line.Question.TheVariants as question
use Rattle.numa_script.specs.declared.line.ScriptLine.{ScriptLine}
use Rattle.numa_script.specs.declared.reply.Reply.{Reply}
use Rattle.numa_script.specs.declared.reply.Reply.TheVariants as reply
use Rattle.numa_run.specs.Listings.{both_listing}
use Rattle.numa_run.specs.MovedTexts.{both_line}
use Rattle.numa_run.specs.Questions.{question_text}
use Rattle.numa_run.specs.Answers.{State}
use Rattle.numa_run.specs.Replies.{bytes_of, reply_in}
use Rattle.numa_run.specs.Scripts.{ScriptWrites}
use Rattle.numa_run.specs.declared.running.Taken.{Taken}
use Rattle.numa_run.specs.declared.running.Taken.TheVariants as own
use Rattle.numa_run.specs.declared.script.Script.{Script}
use Rattle.numa_run.proofs.JudgeLemmas.{cause-starved, reply-starved}
use Rattle.numa_host_script.specs.declared.lines.Shows.{Shows}
use Rattle.numa_host_script.specs.Hosts.{plenty}
use Rattle.numa_host_script.specs.Judged.{Starves}
use Rattle.numa_host_script.specs.Paging.{arrived_text, memory_at, pages_at, process_in, shown_text}
use Rattle.numa_host_script.specs.Sessions.{Hosted, Hosting, HostLack, Session, Single}
use Rattle.numa_host_script.specs.Sessions.{session_after, session_answer, session_served}
use Rattle.numa_host_script.specs.Standing.{RunsAs, StandsIn, told}
use Rattle.numa_host_script.specs.Taking.{IsLeft, Left, Open, Pooled, Told, Touched, answer_left}
use Rattle.numa_host_script.specs.Taking.{fault_left, left_in, shown_by}
use Rattle.numa_host_script.specs.Taking.{misplaced_reply}
use Rattle.numa_host_script.specs.declared.running.RunningHost.{RunningHost}
use Rattle.numa_host_script.specs.declared.taking.HostTaken.{HostTaken}
use Rattle.numa_host_script.specs.declared.taking.HostTaken.TheVariants as taken
use Rattle.numa_host_script.proofs.Left.{asked-answer_where, asked-fault_where, asks_moved}
use Rattle.numa_host_script.proofs.Left.{foreign-asked, foreign-listed, foreign-moved, IsSpaceOf}
use Rattle.numa_host_script.proofs.Left.{listed-answer_where, listed-unstarved}
use Rattle.numa_host_script.proofs.Left.{misplaced-answer, misplaced-fault, misplaced_as}
use Rattle.numa_host_script.proofs.Left.{misplaced_fault, moved-answer_where, moved-unstarved}
use Rattle.numa_host_script.proofs.Left.{own-answer, own-fault, pooled-fault, stays, Stays}
use Rattle.numa_host_script.proofs.Left.{told-answer, told-fault, touched-fault}
use Rattle.numa_host_script.proofs.Taken.{lack_of}

module _ {W : Type 0} (contents : W → Option (List ℕ)) (output output_then : Watched W) where
  -- what was left in a session was written
  abbrev pub WritesAt : Left → Bool → Script → Bounds → Option RunningHost → Session → Type 0
  WritesAt left lacks script limits host session = (lack : HostLack)
      × StandsIn script limits host session
      × Said contents output output_then (bytes_of (answer_left lack session left))
      × (IsTrue lacks ↔ IsSomeAnd (fault_left lack session left) LacksMemory)

  pub written-reply : (script : Script) (limits : Bounds) (host : Option RunningHost)
      (answer : Reply) (lacks : Bool) (session : Session) → StandsIn script limits host session
      → Said contents output output_then (text_of answer) → (IsTrue lacks ↔ LacksMemory answer)
      → WritesAt (Told answer) lacks script limits host session
  written-reply script limits host answer lacks session stands said starved =
      (plenty, stands, said, reply-starved answer lacks starved)

  pub written-own : (old new : Script) (limits : Bounds) (found : Taken) (lacks : Bool)
      (session : Session) → ScriptWrites contents old output found lacks new output_then
      → StandsIn old limits None session
      → WritesAt (left_in (taken.Own found)) lacks new limits None session
  written-own old new limits found lacks (Hosted at) writes stands = absurd stands
  written-own old new limits found lacks (Single state) writes stands =
      let w = writes state stands.0 in
      let lack = lack_of w.0 in (
        lack,
        (w.1, stands.1),
        said_same contents output output_then _ _ (ap bytes_of (own-answer lack state found)) w.2,
        subst (λ (o : Option Reply). IsTrue lacks ↔ IsSomeAnd o LacksMemory)
            (own-fault lack state found) w.3,
      )

  -- what a host says of a line of one process: a reply, or what it shows of its pages
  misplaced-at : (script : Script) (limits : Bounds) (host : RunningHost) (found : Taken)
      (shown : Option Reply) (lacks : Bool) (at : Hosting) → shown ≡ misplaced_reply found
      → RunsAs host at
      → Said contents output output_then (bytes_of (misplaced_as shown (shown_by found) at))
      → (IsTrue lacks ↔ IsSomeAnd (misplaced_fault shown) LacksMemory)
      → WritesAt (left_in (taken.Own found)) lacks script limits (Some host) (Hosted at)
  misplaced-at script limits host found shown lacks at is stands said starved = (
    plenty,
    stands,
    said_same contents output output_then _ _
        (ap (λ (s : Option Reply).
        bytes_of (misplaced_as s (shown_by found) at)) is
        ∙ ap bytes_of (misplaced-answer plenty at found)) said,
    subst (λ (o : Option Reply). IsTrue lacks ↔ IsSomeAnd o LacksMemory)
        (ap misplaced_fault is ∙ misplaced-fault plenty at found) starved,
  )

  pub written-misplaced : (script : Script) (limits : Bounds) (host : RunningHost)
      (found : Taken) (answer : Reply) (lacks : Bool) (session : Session)
      → Some answer ≡ misplaced_reply found
      → Said contents output output_then (text_of answer) → (IsTrue lacks ↔ LacksMemory answer)
      → StandsIn script limits (Some host) session
      → WritesAt (left_in (taken.Own found)) lacks script limits (Some host) session
  written-misplaced script limits host found answer lacks (Single state) is said starved stands =
      absurd stands
  written-misplaced script limits host found answer lacks (Hosted at) is said starved stands =
      misplaced-at script limits host found (Some answer) lacks at is stands said
      (reply-starved answer lacks starved)

  -- what its last move did, its pools, or its rooms
  abbrev pub TellsShown : RunningHost → Shows → Type 0
  TellsShown host asks = (at : Hosting) → RunsAs host at
      → Said contents output output_then (shown_text asks at)

  pub written-shown : (script : Script) (limits : Bounds) (host : RunningHost) (found : Taken)
      (session : Session) → None ≡ misplaced_reply found
      → TellsShown host (shown_by found)
      → StandsIn script limits (Some host) session
      → WritesAt (left_in (taken.Own found)) false script limits (Some host) session
  written-shown script limits host found (Single state) is tells stands = absurd stands
  written-shown script limits host found (Hosted at) is tells stands =
      misplaced-at script limits host found None false at is stands (tells at stands)
      (λ e. cc, λ s. absurd s)

  -- what pages that were touched did
  abbrev pub TellsArrived : RunningHost → ℕ → Type 0
  TellsArrived host process = (at : Hosting) → RunsAs host at
      → Said contents output output_then (arrived_text at process)

  pub written-arrived : (script : Script) (limits : Bounds) (host : RunningHost) (process : ℕ)
      (session : Session) → TellsArrived host process → StandsIn script limits (Some host) session
      → WritesAt (left_in (taken.Arrived process)) false script limits (Some host) session
  written-arrived script limits host process (Single state) tells stands = absurd stands
  written-arrived script limits host process (Hosted at) tells stands =
      (plenty, stands, tells at stands, (λ e. cc, λ s. absurd s))

  pub written-early : (old new : Script) (limits : Bounds) (process : ℕ) (lacks : Bool)
      (session : Session) → ScriptWrites contents old output own.Arrived lacks new output_then
      → StandsIn old limits None session
      → WritesAt (left_in (taken.Arrived process)) lacks new limits None session
  written-early old new limits process lacks (Hosted at) writes stands = absurd stands
  written-early old new limits process lacks (Single state) writes stands =
      written-own old new limits own.Arrived lacks (Single state) writes stands

  -- a question of a process was answered
  abbrev pub AsksAt : ℕ → Question → Bool → Session → Type 0
  AsksAt process asked lacks session = (lack : HostLack)
      × Said contents output output_then
      (session_answer lack session (told process (line.Question asked)))
      × (IsTrue lacks ↔ Starves lack session (told process (line.Question asked)))

  pub asked-foreign : (script : Script) (limits : Bounds) (process : ℕ) (asked : Question)
      (session : Session) → Said contents output output_then (text_of reply.BadWords)
      → StandsIn script limits None session → AsksAt process asked false session
  asked-foreign script limits process asked (Hosted at) said stands = absurd stands
  asked-foreign script limits process asked (Single state) said stands =
      let is = foreign-asked state process asked in (
        plenty,
        said_same contents output output_then _ _
            (ap bytes_of (told-answer plenty (Single state) (told process (line.Question asked))
            reply.BadWords is)) said,
        subst (λ (o : Option Reply). IsTrue false ↔ IsSomeAnd o LacksMemory)
            (told-fault plenty (Single state) (told process (line.Question asked)) reply.BadWords
            is) (λ e. cc, λ s. absurd s),
      )

  pub asked-nobody : (script : Script) (limits : Bounds) (host : RunningHost) (process : ℕ)
      (asked : Question) (session : Session)
      → Said contents output output_then (text_of (reply.HostRefused NoSuchProcess))
      → ((history : List HostCommand) → HostStandsFor host.host history
      → is_there (members_of history) process ≡ false)
      → StandsIn script limits (Some host) session → AsksAt process asked false session
  asked-nobody script limits host process asked (Single state) said gone stands = absurd stands
  asked-nobody script limits host process asked (Hosted at) said gone stands =
      let no = gone at.history stands.stands in (
        plenty,
        said_same contents output output_then _ _
            (sym (ap bytes_of (asked-answer_where false plenty at process asked no))) said,
        subst (λ (o : Option Reply). IsTrue false ↔ IsSomeAnd o LacksMemory)
            (sym (asked-fault_where false plenty at process asked no)) (λ e. cc, λ s. cc),
      )

  asked-by : (script : Script) (limits : Bounds) (host : RunningHost) (process : ℕ)
      (asked : Question) (space : SpaceState) (lacked : Lack) (session : Session)
      → IsSpaceOf host.host process space
      → ((history : List Command) → StandsFor space history → Said contents output output_then
      (question_text (is_starved lacked) space.machine history asked))
      → (asked ≡ question.Ranges → is_starved lacked ≡ false)
      → StandsIn script limits (Some host) session
      → AsksAt process asked (is_starved lacked) session
  asked-by script limits host process asked space lacked (Single state) there answers ranges
      stands = absurd stands
  asked-by script limits host process asked space lacked (Hosted at) there answers ranges
      stands =
      let here = there at.history stands.stands in
      let machine : space.machine ≡ at.machine = here.1 ∙ stands.machine in
      let stood : StandsFor space (commands_of at.machine at.history process) =
      subst (λ (m : Hardware). StandsFor space (commands_of m at.history process)) stands.machine
      here.2 in
      let lack = lack_of lacked in (
        lack,
        said_same contents output output_then _ _
            (ap (λ (m : Hardware). question_text (is_starved lacked) m
            (commands_of at.machine at.history process) asked) machine
            ∙ sym (ap bytes_of (asked-answer_where true lack at process asked here.0)))
            (answers (commands_of at.machine at.history process) stood),
        subst (λ (o : Option Reply). IsTrue (is_starved lacked) ↔ IsSomeAnd o LacksMemory)
            (sym (asked-fault_where true lack at process asked here.0))
            (cause-starved (is_starved lacked) at.machine
            (commands_of at.machine at.history process) asked ranges),
      )

  pub asked-there : (script : Script) (limits : Bounds) (host : RunningHost) (process : ℕ)
      (asked : Question) (space : SpaceState) (lacks : Bool) (session : Session)
      → IsSpaceOf host.host process space
      → ((history : List Command) → StandsFor space history
      → Said contents output output_then (question_text lacks space.machine history asked))
      → (asked ≡ question.Ranges → lacks ≡ false)
      → StandsIn script limits (Some host) session → AsksAt process asked lacks session
  asked-there script limits host process asked space false session =
      asked-by script limits host process asked space Enough session
  asked-there script limits host process asked space true session =
      asked-by script limits host process asked space Starved session

  pub written-asked : (script : Script) (limits : Bounds) (host : Option RunningHost)
      (process : ℕ) (asked : Question) (lacks : Bool) (session : Session)
      → AsksAt process asked lacks session → StandsIn script limits host session
      → WritesAt (left_in (taken.Asked process asked)) lacks script limits host session
  written-asked script limits host process asked lacks session asks stands =
      (asks.0, stands, asks.1, asks.2)

  -- a line was answered that a process is told and that changes nothing
  abbrev pub AnswersAt : ScriptLine → Session → Type 0
  AnswersAt said session = Said contents output output_then (session_answer plenty session said)

  -- the ranges of a process were listed
  abbrev pub ListsAt : ℕ → ℕ → Session → Type 0
  ListsAt process task session = AnswersAt (told process (line.Maps task)) session

  answered-foreign : (line_said : ScriptLine) (state : State)
      → Some reply.BadWords ≡ reply_in (session_served plenty (Single state) line_said).answer
      → Said contents output output_then (text_of reply.BadWords)
      → AnswersAt line_said (Single state)
  answered-foreign line_said state is said = said_same contents output output_then _ _
      (ap bytes_of (told-answer plenty (Single state) line_said reply.BadWords is)) said

  pub listed-foreign : (script : Script) (limits : Bounds) (process task : ℕ)
      (session : Session) → Said contents output output_then (text_of reply.BadWords)
      → StandsIn script limits None session → ListsAt process task session
  listed-foreign script limits process task (Hosted at) said stands = absurd stands
  listed-foreign script limits process task (Single state) said stands = answered-foreign
      (told process (line.Maps task)) state (foreign-listed state process task) said

  pub listed-nobody : (script : Script) (limits : Bounds) (host : RunningHost)
      (process task : ℕ) (session : Session)
      → Said contents output output_then (text_of (reply.HostRefused NoSuchProcess))
      → ((history : List HostCommand) → HostStandsFor host.host history
      → is_there (members_of history) process ≡ false)
      → StandsIn script limits (Some host) session → ListsAt process task session
  listed-nobody script limits host process task (Single state) said gone stands = absurd stands
  listed-nobody script limits host process task (Hosted at) said gone stands =
      said_same contents output output_then _ _
      (sym (ap bytes_of (listed-answer_where false plenty at process task
      (gone at.history stands.stands)))) said

  -- the space and the pages of a process that is there, in a host, were listed
  abbrev pub ListsThere : RunningHost → ℕ → ℕ → SpaceState → Type 0
  ListsThere host process task space = (at : Hosting) → RunsAs host at
      → (own_one : Process) → StandsFor space own_one.history → own_one.machine ≡ space.machine
      → own_one.kept ≡ []
      → Said contents output output_then (both_listing own_one (pages_at at process).spots
      (memory_at at process) task)

  pub listed-there : (script : Script) (limits : Bounds) (host : RunningHost)
      (process task : ℕ) (space : SpaceState) (session : Session)
      → IsSpaceOf host.host process space → ListsThere host process task space
      → StandsIn script limits (Some host) session → ListsAt process task session
  listed-there script limits host process task space (Single state) there lists stands =
      absurd stands
  listed-there script limits host process task space (Hosted at) there lists stands =
      let here = there at.history stands.stands in
      let machine : space.machine ≡ at.machine = here.1 ∙ stands.machine in
      let stood : StandsFor space (commands_of at.machine at.history process) =
      subst (λ (m : Hardware). StandsFor space (commands_of m at.history process)) stands.machine
      here.2 in
      said_same contents output output_then _ _
      (sym (ap bytes_of (listed-answer_where true plenty at process task here.0)))
      (lists at stands (process_in at process) stood (sym machine) refl)

  pub written-listed : (script : Script) (limits : Bounds) (host : Option RunningHost)
      (process task : ℕ) (session : Session) → ListsAt process task session
      → StandsIn script limits host session
      → WritesAt (left_in (taken.Listed process task)) false script limits host session
  written-listed script limits host process task session lists stands =
      (plenty, stands, lists, (λ e. cc, λ s. absurd (listed-unstarved session process task s)))

  -- what the last move of a process did was told
  pub moved-foreign : (script : Script) (limits : Bounds) (process : ℕ) (session : Session)
      → Said contents output output_then (text_of reply.BadWords)
      → StandsIn script limits None session → AnswersAt (asks_moved process) session
  moved-foreign script limits process (Hosted at) said stands = absurd stands
  moved-foreign script limits process (Single state) said stands =
      answered-foreign (asks_moved process) state (foreign-moved state process) said

  pub moved-nobody : (script : Script) (limits : Bounds) (host : RunningHost) (process : ℕ)
      (session : Session)
      → Said contents output output_then (text_of (reply.HostRefused NoSuchProcess))
      → ((history : List HostCommand) → HostStandsFor host.host history
      → is_there (members_of history) process ≡ false)
      → StandsIn script limits (Some host) session → AnswersAt (asks_moved process) session
  moved-nobody script limits host process (Single state) said gone stands = absurd stands
  moved-nobody script limits host process (Hosted at) said gone stands =
      said_same contents output output_then _ _
      (sym (ap bytes_of (moved-answer_where false plenty at process
      (gone at.history stands.stands)))) said

  abbrev pub TellsLast : RunningHost → ℕ → Type 0
  TellsLast host process = (at : Hosting) → RunsAs host at → Said contents output output_then
      (both_line (length at.history) (pages_at at process).last (memory_at at process))

  pub moved-there : (script : Script) (limits : Bounds) (host : RunningHost) (process : ℕ)
      (space : SpaceState) (session : Session) → IsSpaceOf host.host process space
      → TellsLast host process → StandsIn script limits (Some host) session
      → AnswersAt (asks_moved process) session
  moved-there script limits host process space (Single state) there tells stands = absurd stands
  moved-there script limits host process space (Hosted at) there tells stands =
      said_same contents output output_then _ _
      (sym (ap bytes_of (moved-answer_where true plenty at process
      (there at.history stands.stands).0))) (tells at stands)

  pub written-moved : (script : Script) (limits : Bounds) (host : Option RunningHost)
      (process : ℕ) (session : Session) → AnswersAt (asks_moved process) session
      → StandsIn script limits host session
      → WritesAt (left_in (taken.Moved process)) false script limits host session
  written-moved script limits host process session answers stands =
      (plenty, stands, answers, (λ e. cc, λ s. absurd (moved-unstarved session process s)))

  -- a line was taken, and then its answer was written
  abbrev pub ServesAt : ScriptLine → Bool → Script → Bounds → Option RunningHost → Session → Type 0
  ServesAt said lacks script limits host session = (lack : HostLack)
      × StandsIn script limits host (session_after lack session said)
      × Said contents output output_then (session_answer lack session said)
      × (IsTrue lacks ↔ Starves lack session said)

  module _ (mid : Script) (mid_limits : Bounds) (mid_host : Option RunningHost)
      (new : Script) (new_limits : Bounds) (new_host : Option RunningHost) where
    served-left : (said : ScriptLine) (left : Left) (lacks : Bool) (session : Session)
        → ((lack : HostLack) → Stays lack session left)
        → (lack : HostLack) × StandsIn mid mid_limits mid_host (session_after lack session said)
        × IsLeft lack session said left
        → ((then : Session) → StandsIn mid mid_limits mid_host then
        → WritesAt left lacks new new_limits new_host then)
        → ServesAt said lacks new new_limits new_host session
    served-left said (Told answer) lacks session same t writes =
        let w = writes (session_after t.0 session said) t.1 in (
          t.0,
          w.1,
          said_same contents output output_then _ _
              (ap bytes_of (told-answer t.0 session said answer t.2)) w.2,
          subst (λ (o : Option Reply). IsTrue lacks ↔ IsSomeAnd o LacksMemory)
              (told-fault t.0 session said answer t.2) w.3,
        )
    served-left said (Touched process) lacks session same t writes =
        let w = writes (session_after t.0 session said) t.1 in (
          t.0,
          w.1,
          said_same contents output output_then _ _ (ap bytes_of t.2.0) w.2,
          subst (λ (o : Option Reply). IsTrue lacks ↔ IsSomeAnd o LacksMemory)
              (touched-fault t.0 w.0 session said process t.2) w.3,
        )
    served-left said Pooled lacks session same t writes =
        let w = writes (session_after t.0 session said) t.1 in (
          t.0,
          w.1,
          said_same contents output output_then _ _ (ap bytes_of t.2.0) w.2,
          subst (λ (o : Option Reply). IsTrue lacks ↔ IsSomeAnd o LacksMemory)
              (pooled-fault t.0 w.0 session said t.2) w.3,
        )
    served-left said (Open shown) lacks session same t writes =
        let still = ap (session_after t.0 session) t.2 ∙ same t.0 in
        let w = writes session (subst (StandsIn mid mid_limits mid_host) still t.1) in
        subst (λ (s : ScriptLine). ServesAt s lacks new new_limits new_host session) (sym t.2) (
          w.0,
          subst (StandsIn new new_limits new_host) (sym (same w.0)) w.1,
          w.2,
          w.3,
        )

    pub served-line : (said : ScriptLine) (found : HostTaken) (lacks : Bool) (session : Session)
        → (lack : HostLack) × StandsIn mid mid_limits mid_host (session_after lack session said)
        × IsLeft lack session said (left_in found)
        → ((then : Session) → StandsIn mid mid_limits mid_host then
        → WritesAt (left_in found) lacks new new_limits new_host then)
        → ServesAt said lacks new new_limits new_host session
    served-line said found lacks session t writes =
        served-left said (left_in found) lacks session (λ lack. stays lack session found) t
        writes
