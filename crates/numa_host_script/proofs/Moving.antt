-- What an `mbind .. move` of a process makes of a host that answers it, and of where its pages lie.
use Rattle.std.proofs.Common.{◌≡◌, ℕ, suc, Bool, true, false, Option, Some, None, Result, Ok, Err}
use Rattle.std.proofs.Common.{List, [], ◌∷◌, length, refl, sym, ap, subst, ◌∙◌, inl, inr, is_some}
use Rattle.std.proofs.lemmas.Bool.{cases_Bool}
use Rattle.std.specs.Prelude.{if◌then◌else◌}
use Rattle.numa_space.specs.Standing.{SpaceState, StandsFor}
use Rattle.numa_requests.specs.declared.command.Command.{Command}
use Rattle.numa_requests.specs.declared.host_command.HostCommand.{HostCommand}
use Rattle.numa_requests.specs.declared.host_command.HostCommand.TheVariants.{In}
use Rattle.numa_requests.specs.declared.host_refusal.HostRefusal.{HostRefusal}
use Rattle.numa_requests.specs.declared.page_refusal.PlacedRefusal.{PlacedRefusal}
use Rattle.numa_requests.specs.declared.page_refusal.PlacedRefusal.TheVariants as cause
use Rattle.numa_requests.specs.declared.refusal.Refusal.{Refusal}
use Rattle.numa_host.specs.Processes.{commands_of, is_there, members_of}
use Rattle.numa_host.specs.Standing.{HostState, HostStandsFor, IsHostApplied, IsSpaceOf}
use Rattle.numa_huge.specs.Moves.{HugeMemory}
use Rattle.numa_host_huge.specs.Kept.{HugeKept}
use Rattle.numa_host_huge.specs.Sharing.{Sharing, memory_in}
use Rattle.numa_host_huge.specs.Standing.{HugeLies}
use Rattle.numa_host_pages.specs.Homes.{HostLying, given_back, lent, pages_in}
use Rattle.numa_host_pages.specs.Homes.{taken_along, with_pages}
use Rattle.numa_host_pages.specs.Standing.{AreOf, HostLies}
use Rattle.numa_host_pages.specs.declared.pages.HostPages.{HostPages}
use Rattle.numa_page_state.specs.Lying.{Lying, Process, nothing}
use Rattle.numa_page_state.specs.Lying.{process_in as process_by}
use Rattle.numa_page_state.specs.Outcomes.{Enough, Lack, Starved, is_starved, lack_told}
use Rattle.numa_page_state.specs.Sending.{asked_of, command_of, rebinding_in, sent_in}
use Rattle.numa_page_state.specs.Sending.{tells_left, with_sent}
use Rattle.numa_page_state.specs.Standing.{LiesAs, Sends}
use Rattle.numa_page_state.specs.declared.last.Last.TheVariants as went
use Rattle.numa_page_state.specs.declared.sending.Rebinding.{Rebinding}
use Rattle.numa_page_state.specs.declared.sending.Sending.{Sending}
use Rattle.numa_page_state.specs.declared.state.PageState.{PageState}
use Rattle.numa_page_state.proofs.Asking.{settles}
use Rattle.numa_script.specs.declared.page_line.MoveWords.{MoveWords}
use Rattle.numa_script.specs.declared.reply.Reply.{Reply}
use Rattle.numa_script.specs.declared.reply.Reply.TheVariants as reply
use Rattle.numa_run.specs.Obeying.{toucher_of}
use Rattle.numa_run.specs.Replies.{Replied, reply_in}
use Rattle.numa_host_script.specs.Hosts.{Hosting, Outcome, process_outcome, with_reply}
use Rattle.numa_host_script.specs.Paging.{lying_with, moved_by, own_cause, pages_at}
use Rattle.numa_host_script.specs.Paging.{pages_reply, process_in, sent_outcome, sent_unless}
use Rattle.numa_host_script.specs.Paging.{sent_where, sent_with, small_sent, takes_more}
use Rattle.numa_host_script.specs.Paging.{unless_pages}
use Rattle.numa_host_script.specs.Standing.{Answers, HostRuns, IsSentTo, Replies, RepliesThere}
use Rattle.numa_host_script.specs.Standing.{RunsAs, SendsFound, SendsIn, hosting_with}
use Rattle.numa_host_script.specs.declared.running.RunningHost.{RunningHost}
use Rattle.numa_host_script.proofs.Bindings.{nobody-takes}
use Rattle.numa_host_script.proofs.Lent.{along-are, given-are, lent-none, lent-some}
use Rattle.numa_host_script.proofs.Lent.{same-back}
use Rattle.numa_host_script.proofs.Spaces.{own-space, same-process}
use Rattle.numa_host_script.proofs.Unmapped.{cause-some, flag, refused-plain}

-- ---- mbind .. move, of pages that were lent

starved-why : (why : PlacedRefusal) → is_starved (lack_told why) ≡ true → why ≡ cause.NoMemory
starved-why cause.NoMemory is = refl
starved-why cause.Unaligned is = cc
starved-why cause.OutOfSpace is = cc
starved-why cause.NoSuchNode is = cc
starved-why cause.Occupied is = cc
starved-why cause.NodesNotAllowed is = cc
starved-why cause.Astray is = cc
starved-why cause.BadCpu is = cc
starved-why cause.Unmapped is = cc
starved-why cause.NoRoom is = cc
starved-why cause.TooManyRuns is = cc

-- where nobody is there, nothing is owed
pub nobody-sends : (host new : HostState) (huge huge_then : HugeKept) (state after : PageState)
    (answer : Reply) (process : ℕ) (said : Rebinding) (words : MoveWords)
    → ((history : List HostCommand) → HostStandsFor host history
    → is_there (members_of history) process ≡ false)
    → SendsIn host huge state (Err answer) new huge_then after process said words
nobody-sends host new huge huge_then state after answer process said words nobody =
    λ at runs shares more lies.
    absurd (nobody-takes at process (nobody at.history runs.stands) more)

module _ (host : HostState) (huge : HugeKept) (state : PageState) (process : ℕ)
    (said : Rebinding) (words : MoveWords) (space : SpaceState)
    (owns : (history : List HostCommand) → HostStandsFor host history
    → (is_there (members_of history) process ≡ true)
    × IsSpaceOf host.blank.machine host.blank.bounds
    (commands_of host.blank.machine history process) space) where
  abbrev command : HostCommand
  command = In process (command_of said)

  -- what `sent` promises
  abbrev pub FindsSent : Result (Option Sending) PlacedRefusal → Type 0
  FindsSent found = (history : List Command) (lying : Lying) → StandsFor space history
      → LiesAs state lying
      → Sends (process_by space history []) said (toucher_of words) lying found

  pub finds-that : (found wanted : Result (Option Sending) PlacedRefusal) → found ≡ wanted
      → FindsSent found → FindsSent wanted
  finds-that found wanted is all = subst FindsSent is all

  finds-here : (found : Result (Option Sending) PlacedRefusal) → FindsSent found
      → (at : Hosting) → HostRuns host at → LiesAs state (pages_at at process)
      → Sends (process_in at process) said (toucher_of words) (pages_at at process) found
  finds-here found all at runs lies =
      let own = owns at.history runs.stands in
      subst (λ (p : Process). Sends p said (toucher_of words) (pages_at at process) found)
      (same-process host at process space runs.machine runs.bounds own.1 [] refl)
      (all (commands_of at.machine at.history process) (pages_at at process)
      (own-space host at process space runs.machine runs.bounds own.1).stands lies)

  -- what holds once pages of 4 KiB have been found that go
  pub found-sends : (result : Result Reply Reply) (new : HostState) (huge_then : HugeKept)
      (after : PageState) (done : Sending) → FindsSent (Ok (Some done))
      → SendsFound host huge state result new huge_then after process said words done
      → SendsIn host huge state result new huge_then after process said words
  found-sends (Ok answer) new huge_then after done all found = λ at runs shares more lies.
      found at (finds-here (Ok (Some done)) all at runs lies) runs shares more lies
  found-sends (Err answer) new huge_then after done all found = λ at runs shares more lies.
      found at (finds-here (Ok (Some done)) all at runs lies) runs shares more lies

  passes : (first : Option Refusal) (at : Hosting) → is_some first ≡ true
      → sent_unless Enough first at process said words
      ≡ process_outcome Enough at process (command_of said)
  passes None at some = cc
  passes (Some refusal) at some = refl

  -- something refuses the policy
  pub send-refused : (new : HostState) (answer : Reply) → FindsSent (Ok None)
      → Answers host command answer new
      → SendsIn host huge state (Err answer) new huge state process said words
  send-refused new answer all answers = λ at runs shares more lies.
      let some = finds-here (Ok None) all at runs lies in
      let plain = refused-plain host new at process (command_of said) answer runs
      (cause-some at.machine at.bounds at.history process (command_of said) some) answers in (
        Enough,
        passes (own_cause at process (command_of said)) at some ∙ plain.0,
        plain.1,
        refl,
        shares,
      )

  -- runs or memory lack
  pub send-denied : (why : PlacedRefusal) → FindsSent (Err why)
      → SendsIn host huge state (Err (pages_reply why)) host huge state process said words
  send-denied why all = λ at runs shares more lies.
      elim (cases_Bool (is_starved (lack_told why))) [
        | inl t ↦ (
          Starved,
          ap (λ (w : PlacedRefusal). with_reply (pages_reply w) at) (sym (starved-why why t)),
          runs,
          refl,
          shares,
        )
        | inr e ↦
            let so = finds-here (Err why) all at runs lies e in
            let it : Lack = lack_told why in (
              it,
              ap (λ (b : Bool). if b then with_reply (pages_reply cause.NoMemory) at
                  else sent_where (own_cause at process (command_of said)) it at process said
                  words) e
                  ∙ ap (λ (o : Option Refusal). sent_where o it at process said words) so.0
                  ∙ ap (λ (o : Option PlacedRefusal).
                  unless_pages o at (sent_outcome at process said words)) so.1,
              runs,
              refl,
              shares,
            )
      ]

  -- memory lacked when the policy was to be set
  pub send-starved : (new : HostState) (why : HostRefusal)
      → IsHostApplied host command (Err why) new
      → SendsIn host huge state (Err (pages_reply cause.NoMemory)) new huge state process said words
  send-starved new why applied = λ at runs shares more lies. (
    Starved,
    refl,
    subst (λ (h : HostState). HostRuns h at) (sym applied.unchanged) runs,
    refl,
    shares,
  )

  -- the policy is set, and the pages went
  pub send-done : (new : HostState) (version : ℕ) (done : Sending) (after : PageState)
      (late : Bool) → IsHostApplied host command (Ok tt) new
      → ((history : List HostCommand) → HostStandsFor new history → version ≡ length history)
      → FindsSent (Ok (Some done))
      → after ≡ record {
        placed = done.placed;
        rooms = done.rooms;
        follows = state.follows;
        last = went.Pages (record {
          moved = done.moved;
          left = done.left;
          before = state.placed;
          after = done.copy;
        });
        arrived = state.arrived;
      }
      → late ≡ tells_left words.strict said.spec done.left
      → ((at : Sharing) → HugeLies huge at → memory_in process at ≡ None)
      → SendsIn host huge state (Ok (reply.Sent version done.moved done.left late)) new huge after
      process said words
  send-done new version done after late applied counts all is tells small =
      λ at runs shares more lies.
      let from : Lying = pages_at at process in
      let so = finds-here (Ok (Some done)) all at runs lies in
      let asked = asked_of (process_in at process) said (toucher_of words) in
      let lying : Lying = with_sent [] asked from in
      let ok = applied.ok at.history runs.stands in
      let counted : version ≡ suc (length at.history) = counts (command ∷ at.history) ok.1 in
      let lateness : late ≡ tells_left words.strict said.spec (sent_in [] asked from).left =
      tells ∙ ap (tells_left words.strict said.spec) so.1.left in
      let alone : sent_outcome at process said words ≡ small_sent at process said words =
      ap (λ (m : Option HugeMemory). sent_with m at process said words)
      (small at.lying.huge shares) in
      let told : sent_outcome at process said words ≡ record {
        answer = Replied (reply.Sent version done.moved done.left late);
        history = command ∷ at.history;
        lying = taken_along process (lying_with at process lying);
      } = alone ∙ (λ i. record {
        answer = Replied (reply.Sent (sym counted i) (sym so.1.moved i) (sym so.1.left i)
            (sym lateness i));
        history = command ∷ at.history;
        lying = taken_along process (lying_with at process lying);
      }) in (
        lying,
        at.lying.huge,
        ap (λ (o : Option Refusal). sent_unless Enough o at process said words) so.0 ∙ told,
        record {
          machine = applied.machine ∙ runs.machine;
          bounds = applied.bounds ∙ runs.bounds;
          stands = ok.1;
        },
        settles state done after from [] asked is lies so.1,
        shares,
      )

-- ---- pages are given back

module _ (host : HostState) (pages pages_mid pages_then : HostPages) (state after : PageState)
    (new : HostState) (process : ℕ) (said : Rebinding) (words : MoveWords) where
  abbrev pub given : RunningHost
  given = record { host = new; pages = pages_then }

  -- and the host's last move was of them
  abbrev pub moved : HostPages → RunningHost
  moved pages_last = record { host = new; pages = pages_last }

  abbrev pub Goes : HostPages → Type 0
  Goes pages_last = (at : HostLying) → HostLies pages_then at
      → HostLies pages_last (taken_along process at)

  -- the pools and the pages of 2 MiB are so, and all else as it was
  abbrev pub Keeps : Type 0
  Keeps = pages_mid ≡ record pages { huge = pages_mid.huge }

  keeps-rest : Keeps → (at : HostLying) (shared : Sharing) → HostLies pages at
      → HugeLies pages_mid.huge shared → HostLies pages_mid (record at { huge = shared })
  keeps-rest keeps at shared lies shares =
      subst (λ (p : HostPages). HostLies p (record at { huge = shared })) (sym keeps) (record {
        room = lies.room;
        follows = lies.follows;
        homes = lies.homes;
        huge = shares;
        places = lies.places;
      })

  abbrev pub Gives : Type 0
  Gives = (at : HostLying) (done : Lying)
      → HostLies pages_mid (record at { homes = with_pages process None at.homes })
      → LiesAs after done → HostLies pages_then (given_back process done at)

  -- the pages went, its own ones or its first
  pub sent-given : (pages_last : HostPages) (answer : Reply)
      → SendsIn host pages.huge state (Ok answer) new pages_mid.huge after process said
      words
      → Keeps → Gives → Goes pages_last → (at : Hosting) → HostRuns host at
      → AreOf at.lying at.history
      → takes_more at process ≡ true → LiesAs state (pages_at at process)
      → HostLies pages (record at.lying { homes = with_pages process None at.lying.homes })
      → IsSentTo answer (moved pages_last) at process said words
  sent-given pages_last answer sends keeps gives goes at runs are more lies out =
      let d = sends at runs out.huge more lies in
      let mid : HostLying = record at.lying { huge = d.1 } in
      let back : HostLying = given_back process d.0 mid in
      let kept = along-are process back at.history (given-are process d.0 mid at.history
      (record { order = are.order; same = are.same })) in (
        flag Enough,
        sym (ap (λ (o : Outcome). reply_in o.answer) d.2),
        subst (λ (o : Outcome). RunsAs (moved pages_last) (hosting_with at o)) (sym d.2) (record {
          machine = d.3.machine;
          bounds = d.3.bounds;
          stands = d.3.stands;
          lies = goes back (gives mid d.0 (keeps-rest keeps (record at.lying {
            homes = with_pages process None at.lying.homes;
          }) d.1 out d.5) d.4);
          are = record { order = kept.order; same = kept.same };
        }),
      )

  -- they are as they were
  pub lent-kept : (answer : Reply)
      → SendsIn host pages.huge state (Err answer) new pages_mid.huge after process said words
      → Keeps → Gives → (at : Hosting) → HostRuns host at → AreOf at.lying at.history
      → takes_more at process ≡ true → (lying : Lying) → pages_in process at.lying.homes ≡ Some lying
      → LiesAs state (lent at.lying.room at.lying.follows lying)
      → HostLies pages (record at.lying { homes = with_pages process None at.lying.homes })
      → IsSentTo answer given at process said words
  lent-kept answer sends keeps gives at runs are more lying is has out =
      let from : Lying = lent at.lying.room at.lying.follows lying in
      let d = sends at runs out.huge more
      (subst (λ (l : Lying). LiesAs state l) (sym (lent-some process at.lying lying is)) has) in
      let back : LiesAs after from = subst (λ (s : PageState). LiesAs s from) (sym d.3) has in (
        flag d.0,
        sym (ap (λ (o : Outcome). reply_in o.answer) d.1),
        subst (λ (o : Outcome). RunsAs given (hosting_with at o)) (sym d.1) (record {
          machine = d.2.machine;
          bounds = d.2.bounds;
          stands = d.2.stands;
          lies = same-back pages_then process at.lying lying is (gives at.lying from
              (keeps-rest keeps (record at.lying {
                homes = with_pages process None at.lying.homes;
              }) at.lying.huge out d.4) back);
          are = are;
        }),
      )

  -- its first ones aren't kept
  pub first-kept : (answer : Reply)
      → SendsIn host pages.huge state (Err answer) new pages_mid.huge after process said words
      → Keeps → pages_then ≡ pages_mid → (at : Hosting) → HostRuns host at
      → AreOf at.lying at.history → takes_more at process ≡ true
      → pages_in process at.lying.homes ≡ None
      → LiesAs state (lent at.lying.room at.lying.follows nothing) → HostLies pages at.lying
      → IsSentTo answer given at process said words
  first-kept answer sends keeps gone at runs are more none has lies =
      let d = sends at runs lies.huge more
      (subst (λ (l : Lying). LiesAs state l) (sym (lent-none process at.lying none)) has) in (
        flag d.0,
        sym (ap (λ (o : Outcome). reply_in o.answer) d.1),
        subst (λ (o : Outcome). RunsAs given (hosting_with at o)) (sym d.1) (record {
          machine = d.2.machine;
          bounds = d.2.bounds;
          stands = d.2.stands;
          lies = subst (λ (p : HostPages). HostLies p at.lying) (sym gone)
              (keeps-rest keeps at.lying at.lying.huge lies d.4);
          are = are;
        }),
      )

-- there is no memory for the first ones
pub first-starved : (running : RunningHost) (process : ℕ) (said : Rebinding) (words : MoveWords)
    (at : Hosting) → RunsAs running at
    → IsSentTo (pages_reply cause.NoMemory) running at process said words
first-starved running process said words at stands = (flag Starved, refl, stands)

-- by the policy that the command sets
pub moved-some : (old new : RunningHost) (answer : Reply) (process : ℕ) (command : Command)
    (words : MoveWords) (said : Rebinding) → Some said ≡ rebinding_in command
    → RepliesThere old answer new process (λ lack at. sent_unless lack.lacked
    (own_cause at process (command_of said)) at process said words)
    → RepliesThere old answer new process (λ lack at. moved_by (rebinding_in command)
    lack.lacked at process command words)
moved-some old new answer process command words said is serves =
    subst (λ (o : Option Rebinding). RepliesThere old answer new process
    (λ lack at. moved_by o lack.lacked at process command words)) is serves

pub moved-none : (old new : RunningHost) (answer : Reply) (process : ℕ) (command : Command)
    (words : MoveWords) → None ≡ rebinding_in command
    → Replies old answer new (λ lack at. process_outcome lack.lacked at process command)
    → RepliesThere old answer new process (λ lack at. moved_by (rebinding_in command)
    lack.lacked at process command words)
moved-none old new answer process command words is serves =
    subst (λ (o : Option Rebinding). RepliesThere old answer new process
    (λ lack at. moved_by o lack.lacked at process command words)) is
    (λ at stands more. serves at stands)
