-- What taking a line comes to, before a host and in one.
use Rattle.std.proofs.Common.{◌≡◌, ◌≢◌, ℕ, Bool, true, false, Option, Some, None, List, [], refl}
use Rattle.std.proofs.Common.{sym, ap, subst, ◌∙◌}
use Rattle.std.specs.Prelude.{if◌then◌else◌, is_some, Result, Ok, Err}
use Rattle.numa_machine.specs.Machine.{Hardware}
use Rattle.numa_mask.specs.declared.list.ListFault.{ListFault}
use Rattle.numa_mode.specs.Policy.{Specification}
use Rattle.numa_space.specs.Limited.{Bounds}
use Rattle.numa_host.specs.Processes.{is_there, members_of}
use Rattle.numa_host.specs.Standing.{HostStandsFor}
use Rattle.numa_host_pages.specs.Homes.{empty_host}
use Rattle.numa_host_pages.specs.Standing.{HostLies}
use Rattle.numa_requests.specs.declared.command.Command.{Command}
use Rattle.numa_requests.specs.declared.host_command.HostCommand.{HostCommand}
use Rattle.numa_requests.specs.declared.host_refusal.HostRefusal.TheVariants.{NoMemory}
use Rattle.numa_page_state.specs.Outcomes.{Enough, Lack, Starved}
use Rattle.numa_script.specs.Lines.{alone}
use Rattle.numa_script.specs.declared.huge_line.HugeLine.{HugeLine}
use Rattle.numa_script.specs.declared.line.Line.{Line}
use Rattle.numa_script.specs.declared.line.Line.TheVariants as line
use Rattle.numa_script.specs.declared.line.Question.{Question}
use Rattle.numa_script.specs.declared.line.ScriptLine.{ScriptLine}
use Rattle.numa_script.specs.declared.page_line.BoundPages.{BoundPages}
use Rattle.numa_script.specs.declared.page_line.PageLine.{PageLine}
use Rattle.numa_script.specs.declared.page_line.PageLine.TheVariants as page
use Rattle.numa_script.specs.declared.policy.WordError.{WordError}
use Rattle.numa_script.specs.declared.reply.Reply.{Reply}
use Rattle.numa_script.specs.declared.reply.Reply.TheVariants as reply
use Rattle.numa_run.specs.Answers.{State, after, own_line}
use Rattle.numa_run.specs.Replies.{Served as Played, outcome_of, reply_in}
use Rattle.numa_run.specs.Replies.{with_reply as state_reply}
use Rattle.numa_run.specs.Scripts.{ScriptStandsFor, ScriptTakes, IsTaken}
use Rattle.numa_run.specs.declared.running.Taken.{Taken}
use Rattle.numa_run.specs.declared.running.Taken.TheVariants as own
use Rattle.numa_run.specs.declared.script.Script.{Script}
use Rattle.numa_host_script.specs.Hosts.{Outcome, plenty}
use Rattle.numa_host_script.specs.Paging.{page_where}
use Rattle.numa_host_script.specs.Sessions.{Hosted, Hosting, HostLack, Served, Session, Single}
use Rattle.numa_host_script.specs.Sessions.{asked_where, begun, begun_on, begun_where}
use Rattle.numa_host_script.specs.Sessions.{bounds_after, host_command_of, host_outcome, is_begin}
use Rattle.numa_host_script.specs.Sessions.{is_fresh, listed_where, own_outcome, own_where, served}
use Rattle.numa_host_script.specs.Sessions.{session_after, session_served}
use Rattle.numa_host_script.specs.Standing.{Replies, RunsAs, StandsIn, Takes, hosting_with, told}
use Rattle.numa_host_script.specs.Standing.{IsTakenIn}
use Rattle.numa_host_script.specs.Taking.{IsLeft, left_in, pooled_answer, touched_answer}
use Rattle.numa_host_script.specs.declared.running.RunningHost.{RunningHost}
use Rattle.numa_host_script.specs.declared.taking.HostTaken.{HostTaken}
use Rattle.numa_host_script.specs.declared.taking.HostTaken.TheVariants as taken
use Rattle.numa_run.proofs.Taking.{malformed-is}
use Rattle.numa_host_script.proofs.Bounds.{bounds-after}

pub begins : (lack : HostLack) (session : Session) (said : ScriptLine) → is_begin said ≡ true
    → session_served lack session said ≡ begun lack.lacked session
unfolding session_served
begins lack session said is = rw is refl

pub goes-on : (lack : HostLack) (session : Session) (said : ScriptLine) → is_begin said ≡ false
    → session_served lack session said ≡ served lack session said
unfolding session_served
goes-on lack session said is = rw is refl

-- the line itself lacked this, and no move of pages lacked anything
abbrev pub lack_of : Lack → HostLack
lack_of lacked = record { lacked = lacked; moves = λ group process. Enough }

-- ---- lines of a host

-- a line that is answered a text, or by a refusal, changes nothing
pub asked-still : (there : Bool) (lacked : Lack) (at : Hosting) (process : ℕ) (asked : Question)
    → hosting_with at (asked_where there lacked at process asked) ≡ at
asked-still true lacked at process asked = refl
asked-still false lacked at process asked = refl

pub listed-still : (there : Bool) (at : Hosting) (process task : ℕ)
    → hosting_with at (listed_where there at process task) ≡ at
listed-still true at process task = refl
listed-still false at process task = refl

pub moved-still : (there : Bool) (lacked : Lack) (at : Hosting) (process : ℕ)
    → hosting_with at (page_where there lacked at process page.Moved) ≡ at
moved-still true lacked at process = refl
moved-still false lacked at process = refl

pub asked-taken : (running : RunningHost) (process : ℕ) (asked : Question)
    → Takes running (told process (line.Question asked)) (taken.Asked process asked) running
asked-taken running process asked = λ at stands. (
  plenty,
  refl,
  subst (RunsAs running)
      (sym (asked-still (is_there (members_of at.history) process) Enough at process asked)) stands,
)

pub listed-taken : (running : RunningHost) (process task : ℕ)
    → Takes running (told process (line.Maps task)) (taken.Listed process task) running
listed-taken running process task = λ at stands. (
  plenty,
  refl,
  subst (RunsAs running)
      (sym (listed-still (is_there (members_of at.history) process) at process task)) stands,
)

pub moved-taken : (running : RunningHost) (process : ℕ)
    → Takes running (told process (line.Pages (Ok page.Moved))) (taken.Moved process) running
moved-taken running process = λ at stands. (
  plenty,
  refl,
  subst (RunsAs running)
      (sym (moved-still (is_there (members_of at.history) process) Enough at process)) stands,
)

pub all-moved-taken : (running : RunningHost)
    → Takes running (alone (line.Pages (Ok page.Moved))) taken.MovedAll running
all-moved-taken running = λ at stands. (plenty, refl, stands)

pub rooms-taken : (running : RunningHost)
    → Takes running (alone (line.Pages (Ok page.Rooms))) taken.Rooms running
rooms-taken running = λ at stands. (plenty, refl, stands)

-- the reply of a line that a process is told, by what the line says
pub reply-taken : (old new : RunningHost) (said : ScriptLine) (answer : Reply)
    (outcome : HostLack → Hosting → Outcome)
    → ((lack : HostLack) (at : Hosting) → outcome lack at ≡ host_outcome lack at said)
    → Replies old answer new outcome → Takes old said (taken.Reply answer) new
reply-taken old new said answer outcome same replies = λ at stands.
    let done = replies at stands in (
      done.0,
      done.1 ∙ ap (λ (o : Outcome). reply_in o.answer) (same done.0 at),
      subst (λ (o : Outcome). RunsAs new (hosting_with at o)) (same done.0 at) done.2,
    )

-- a line that no process is told
pub in-nothing : (running : RunningHost) (process : ℕ) (said : Line)
    → ((given : Result Command WordError) → said ≢ line.Command given)
    → ((start : ℕ) (fault : WordError) → said ≢ line.EmptyBind start fault)
    → ((asked : Question) → said ≢ line.Question asked)
    → ((task : ℕ) → said ≢ line.Maps task)
    → ((shown : Result PageLine ListFault) → said ≢ line.Pages shown)
    → ((start bytes : ℕ) (policy : Result Specification WordError) (pages : BoundPages)
    → said ≢ line.Bind start bytes policy pages)
    → ((told_so : HugeLine) → said ≢ line.Huge told_so)
    → Takes running (told process said) (taken.Reply reply.BadState) running
in-nothing running process line.Silent given none asks lists shows binds huge =
    λ at stands. (plenty, refl, stands)
in-nothing running process line.Malformed given none asks lists shows binds huge =
    λ at stands. (plenty, refl, stands)
in-nothing running process (line.Limits ranges tasks commands) given none asks lists shows binds
    huge = λ at stands. (plenty, refl, stands)
in-nothing running process (line.Rules rules) given none asks lists shows binds huge =
    λ at stands. (plenty, refl, stands)
in-nothing running process (line.Cpus said) given none asks lists shows binds huge =
    λ at stands. (plenty, refl, stands)
in-nothing running process (line.Machine said) given none asks lists shows binds huge =
    λ at stands. (plenty, refl, stands)
in-nothing running process (line.Command said) given none asks lists shows binds huge =
    absurd (given said refl)
in-nothing running process (line.EmptyBind start fault) given none asks lists shows binds huge =
    absurd (none start fault refl)
in-nothing running process (line.Question said) given none asks lists shows binds huge =
    absurd (asks said refl)
in-nothing running process (line.Maps task) given none asks lists shows binds huge =
    absurd (lists task refl)
in-nothing running process (line.Work said) given none asks lists shows binds huge =
    λ at stands. (plenty, refl, stands)
in-nothing running process (line.Pages said) given none asks lists shows binds huge =
    absurd (shows said refl)
in-nothing running process (line.Bind start bytes policy pages) given none asks lists shows
    binds huge = absurd (binds start bytes policy pages refl)
in-nothing running process (line.Huge said) given none asks lists shows binds huge =
    absurd (huge said refl)
in-nothing running process line.Host given none asks lists shows binds huge =
    λ at stands. (plenty, refl, stands)
in-nothing running process (line.HostCommand said) given none asks lists shows binds huge =
    λ at stands. (plenty, refl, stands)

-- a line that names no process and isn't about pages or pools, by the command that it says
abbrev pub IsOther : Line → Type 0
IsOther (line.Pages (Ok said)) = ⊥
IsOther (line.Huge said) = ⊥
IsOther said = Unit {0}

own-is : (said : Line) → IsOther said → (lack : HostLack) (at : Hosting)
    → own_where (host_command_of said) lack at said ≡ own_outcome lack at said
own-is line.Silent other lack at = refl
own-is line.Malformed other lack at = refl
own-is (line.Limits ranges tasks commands) other lack at = refl
own-is (line.Rules rules) other lack at = refl
own-is (line.Cpus said) other lack at = refl
own-is (line.Machine said) other lack at = refl
own-is (line.Command said) other lack at = refl
own-is (line.EmptyBind start fault) other lack at = refl
own-is (line.Question said) other lack at = refl
own-is (line.Maps task) other lack at = refl
own-is (line.Work said) other lack at = refl
own-is (line.Pages (Ok said)) other lack at = absurd other
own-is (line.Pages (Err fault)) other lack at = refl
own-is (line.Bind start bytes policy pages) other lack at = refl
own-is (line.Huge said) other lack at = absurd other
own-is line.Host other lack at = refl
own-is (line.HostCommand said) other lack at = refl

pub is-other : (said : Line) → ((shown : PageLine) → said ≢ line.Pages (Ok shown))
    → ((huge : HugeLine) → said ≢ line.Huge huge) → IsOther said
is-other line.Silent pages huge = tt
is-other line.Malformed pages huge = tt
is-other (line.Limits ranges tasks commands) pages huge = tt
is-other (line.Rules rules) pages huge = tt
is-other (line.Cpus said) pages huge = tt
is-other (line.Machine said) pages huge = tt
is-other (line.Command said) pages huge = tt
is-other (line.EmptyBind start fault) pages huge = tt
is-other (line.Question said) pages huge = tt
is-other (line.Maps task) pages huge = tt
is-other (line.Work said) pages huge = tt
is-other (line.Pages (Ok said)) pages huge = absurd (pages said refl)
is-other (line.Pages (Err fault)) pages huge = tt
is-other (line.Bind start bytes policy bound) pages huge = tt
is-other (line.Huge said) pages huge = absurd (huge said refl)
is-other line.Host pages huge = tt
is-other (line.HostCommand said) pages huge = tt

pub own-taken : (old new : RunningHost) (said : Line) (answer : Reply) → IsOther said
    → Replies old answer new (λ lack at. own_where (host_command_of said) lack at said)
    → Takes old (alone said) (taken.Reply answer) new
own-taken old new said answer other replies = reply-taken old new (alone said) answer
    (λ lack at. own_where (host_command_of said) lack at said) (own-is said other) replies

-- the same, where the command is found to be this
pub own-found : (old new : RunningHost) (said : Line) (answer : Reply)
    (found : Option (Result HostCommand WordError)) → found ≡ host_command_of said
    → Replies old answer new (λ lack at. own_where found lack at said)
    → Replies old answer new (λ lack at. own_where (host_command_of said) lack at said)
own-found old new said answer found is replies =
    subst (λ (f : Option (Result HostCommand WordError)).
    Replies old answer new (λ lack at. own_where f lack at said)) is replies

-- a line that names a process
pub in-taken : (old new : RunningHost) (said : ScriptLine) (process : ℕ) (found : HostTaken)
    → said.process ≡ Some process → Takes old (told process said.line) found new
    → Takes old said found new
in-taken old new said process found is takes =
    let same : said ≡ told process said.line = λ i. record { process = is i; line = said.line } in
    subst (λ (s : ScriptLine). Takes old s found new) (sym same) takes

-- a line that names none
pub unnamed-taken : (old new : RunningHost) (said : ScriptLine) (found : HostTaken)
    → said.process ≡ None → Takes old (alone said.line) found new → Takes old said found new
unnamed-taken old new said found is takes =
    let same : said ≡ alone said.line = λ i. record { process = is i; line = said.line } in
    subst (λ (s : ScriptLine). Takes old s found new) (sym same) takes

module _ (script : Script) (limits : Bounds) where
  -- ---- a line `host`

  -- the line `host` was carried out in a state
  abbrev pub BeginsAt : Reply → Script → Bounds → Option RunningHost → Session → Type 0
  BeginsAt answer script_then limits_then host_then session = (lack : HostLack)
      × StandsIn script_then limits_then host_then (begun lack.lacked session).session
      × (Some answer ≡ reply_in (begun lack.lacked session).answer)

  pub begun-already : (host : RunningHost) (session : Session)
      → StandsIn script limits (Some host) session
      → BeginsAt reply.BadState script limits (Some host) session
  begun-already host (Single state) stands = absurd stands
  begun-already host (Hosted at) stands = (plenty, stands, refl)

  pub begun-early : (session : Session) → StandsIn script limits None session
      → ((state : State) → ScriptStandsFor script state → is_fresh state ≡ false)
      → BeginsAt reply.BadState script limits None session
  begun-early (Hosted at) stands early = absurd stands
  begun-early (Single state) stands early =
      let is : begun Enough (Single state) ≡ begun_where false Enough state =
      ap (λ (b : Bool). begun_where b Enough state) (early state stands.0) in (
        plenty,
        subst (λ (s : Served). StandsIn script limits None s.session) (sym is) stands,
        sym (ap (λ (s : Served). reply_in s.answer) is),
      )

  abbrev IsFresh : Hardware → Type 0
  IsFresh machine = (state : State) → ScriptStandsFor script state
      → (state.machine ≡ Some machine) × (is_fresh state ≡ true)

  begun-fresh : (lacked : Lack) (state : State) (machine : Hardware)
      → state.machine ≡ Some machine → is_fresh state ≡ true
      → begun lacked (Single state) ≡ begun_on (Some machine) lacked state
  begun-fresh lacked state machine ready fresh =
      ap (λ (b : Bool). begun_where b lacked state) fresh
      ∙ ap (λ (m : Option Hardware). begun_on m lacked state) ready

  pub begun-starved : (machine : Hardware) (session : Session)
      → StandsIn script limits None session → IsFresh machine
      → BeginsAt (reply.HostRefused NoMemory) script limits None session
  begun-starved machine (Hosted at) stands fresh = absurd stands
  begun-starved machine (Single state) stands fresh =
      let here = fresh state stands.0 in
      let is = begun-fresh Starved state machine here.0 here.1 in (
        lack_of Starved,
        subst (λ (s : Served). StandsIn script limits None s.session) (sym is) stands,
        sym (ap (λ (s : Served). reply_in s.answer) is),
      )

  pub begun-now : (machine : Hardware) (host : RunningHost) (session : Session)
      → StandsIn script limits None session → IsFresh machine
      → host.host.blank.machine ≡ machine → host.host.blank.bounds ≡ limits
      → HostStandsFor host.host [] → HostLies host.pages (empty_host machine.memory)
      → BeginsAt reply.HostReady script limits (Some host) session
  begun-now machine host (Hosted at) stands fresh same bounds empty lies = absurd stands
  begun-now machine host (Single state) stands fresh same bounds empty lies =
      let here = fresh state stands.0 in
      let is = begun-fresh Enough state machine here.0 here.1 in (
        plenty,
        subst (λ (s : Served). StandsIn script limits (Some host) s.session) (sym is) (record {
          machine = same;
          bounds = bounds ∙ stands.1;
          stands = empty;
          lies = lies;
          are = record { order = refl; same = record { count = refl; each = λ process. refl } };
        }),
        sym (ap (λ (s : Served). reply_in s.answer) is),
      )

  -- ---- every line

  -- a line was taken in a state
  abbrev pub TakesAt : ScriptLine → HostTaken → Script → Bounds → Option RunningHost → Session
      → Type 0
  TakesAt said found script_then limits_then host_then session = (lack : HostLack)
      × StandsIn script_then limits_then host_then (session_after lack session said)
      × IsLeft lack session said (left_in found)

  pub taken-begin : (said : ScriptLine) (answer : Reply) (script_then : Script)
      (limits_then : Bounds) (host_then : Option RunningHost) (session : Session)
      → is_begin said ≡ true → BeginsAt answer script_then limits_then host_then session
      → TakesAt said (taken.Reply answer) script_then limits_then host_then session
  taken-begin said answer script_then limits_then host_then session is first =
      let same = begins first.0 session said is in (
        first.0,
        subst (λ (s : Served). StandsIn script_then limits_then host_then s.session) (sym same)
            first.1,
        first.2 ∙ sym (ap (λ (s : Served). reply_in s.answer) same),
      )

  -- a line of a host
  left-hosted : (lack : HostLack) (at : Hosting) (said : ScriptLine) (found : HostTaken)
      → session_served lack (Hosted at) said ≡ served lack (Hosted at) said
      → IsTakenIn lack at said found → IsLeft lack (Hosted at) said (left_in found)
  left-hosted lack at said (taken.Own found) same left = absurd left
  left-hosted lack at said (taken.Reply answer) same left =
      left ∙ sym (ap (λ (s : Served). reply_in s.answer) same)
  left-hosted lack at said (taken.Asked process asked) same left = left
  left-hosted lack at said (taken.Listed process task) same left = left
  left-hosted lack at said (taken.Moved process) same left = left
  left-hosted lack at said taken.MovedAll same left = left
  left-hosted lack at said taken.Rooms same left = left
  left-hosted lack at said taken.Pools same left =
      (subst (λ (s : Served). pooled_answer s.session ≡ s.answer) (sym same) left.0, left.1)
  left-hosted lack at said (taken.Arrived process) same left = (
    subst (λ (s : Served). touched_answer s.session (Some process) ≡ s.answer) (sym same) left.0,
    left.1,
  )

  pub taken-hosted : (said : ScriptLine) (found : HostTaken) (old new : RunningHost)
      (session : Session) → is_begin said ≡ false → Takes old said found new
      → StandsIn script limits (Some old) session
      → TakesAt said found script limits (Some new) session
  taken-hosted said found old new (Single state) other takes stands = absurd stands
  taken-hosted said found old new (Hosted at) other takes stands =
      let done = takes at stands in
      let same = goes-on done.0 (Hosted at) said other in (
        done.0,
        subst (λ (s : Served). StandsIn script limits (Some new) s.session) (sym same) done.2,
        left-hosted done.0 at said found same done.1,
      )

  -- a line of one process: a line that may be told to a process of a host says nothing else
  says-alone : (process : Option ℕ) (said shown : Line)
      → (line.Malformed ≡ shown → ⊥)
      → (if is_some process then line.Malformed else said) ≡ shown
      → record { process = process; line = said } ≡ alone shown
  says-alone None said shown other is = ap alone is
  says-alone (Some process) said shown other is = absurd (other is)

  left-alone : (lack : HostLack) (state : State) (said : ScriptLine) (found : Taken)
      → session_served lack (Single state) said ≡ served lack (Single state) said
      → IsTaken lack.lacked state (own_line said) found
      → IsLeft lack (Single state) said (left_in (taken.Own found))
  left-alone lack state said (own.Reply answer) same left =
      left ∙ sym (ap (λ (s : Served). reply_in s.answer) same)
  left-alone lack state said (own.Question asked) same left =
      says-alone said.process said.line (line.Question asked) (λ e. cc) left.1
  left-alone lack state said (own.Maps task) same left =
      says-alone said.process said.line (line.Maps task) (λ e. cc) left.1
  left-alone lack state said own.Moved same left =
      says-alone said.process said.line (line.Pages (Ok page.Moved)) (λ e. cc) left.1
  left-alone lack state said own.Rooms same left =
      says-alone said.process said.line (line.Pages (Ok page.Rooms)) (λ e. cc) left.1
  left-alone lack state said own.Arrived same left =
      (subst (λ (s : Served). touched_answer s.session None ≡ s.answer) (sym same) left.1, left.2)
  left-alone lack state said own.Pools same left =
      (subst (λ (s : Served). pooled_answer s.session ≡ s.answer) (sym same) left.1, left.2)

  -- a line that is told to a process has no place
  pub taken-foreign : (said : ScriptLine) (process : ℕ) (session : Session)
      → is_begin said ≡ false → said.process ≡ Some process → StandsIn script limits None session
      → TakesAt said (taken.Reply reply.BadWords) script limits None session
  taken-foreign said process (Hosted at) other told_so stands = absurd stands
  taken-foreign said process (Single state) other told_so stands =
      let malformed : own_line said ≡ line.Malformed =
      ap (λ (p : Option ℕ). if is_some p then line.Malformed else said.line) told_so in
      let is : outcome_of Enough state (own_line said) ≡ state_reply reply.BadWords state =
      ap (outcome_of Enough state) malformed ∙ malformed-is Enough state in
      let same = goes-on plenty (Single state) said other in (
        plenty,
        subst (λ (s : Served). StandsIn script limits None s.session) (sym same)
            (subst (λ (r : Played). ScriptStandsFor script r.state × (limits ≡ r.state.bounds))
            (sym is) stands),
        sym (ap (λ (s : Served). reply_in s.answer) same
            ∙ ap (λ (r : Played). reply_in r.answer) is),
      )

  own-says : (said : ScriptLine) → said.process ≡ None → said.line ≡ own_line said
  own-says said alone_so =
      sym (ap (λ (p : Option ℕ). if is_some p then line.Malformed else said.line) alone_so)

  pub taken-alone : (said : ScriptLine) (found : Taken) (script_then : Script)
      (limits_then : Bounds) (session : Session) → is_begin said ≡ false → said.process ≡ None
      → ((state : State) → ScriptStandsFor script state
      → limits_then ≡ bounds_after state.machine limits said.line)
      → ScriptTakes script said.line found script_then
      → StandsIn script limits None session
      → TakesAt said (taken.Own found) script_then limits_then None session
  taken-alone said found script_then limits_then (Hosted at) other alone_so kept takes stands =
      absurd stands
  taken-alone said found script_then limits_then (Single state) other alone_so kept takes stands =
      let done = subst (λ (l : Line). ScriptTakes script l found script_then)
      (own-says said alone_so) takes state stands.0 in
      let lack = lack_of done.0 in
      let same = goes-on lack (Single state) said other in
      let bounds : limits_then ≡ (after done.0 state (own_line said)).bounds =
      kept state stands.0
      ∙ ap (bounds_after state.machine limits) (own-says said alone_so)
      ∙ ap (λ (b : Bounds). bounds_after state.machine b (own_line said)) stands.1
      ∙ sym (bounds-after done.0 state (own_line said)) in (
        lack,
        subst (λ (s : Served). StandsIn script_then limits_then None s.session) (sym same)
            (done.2, bounds),
        left-alone lack state said found same done.1,
      )
