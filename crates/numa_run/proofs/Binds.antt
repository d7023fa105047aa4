-- What an `mbind` with words behind its policy makes of a running machine, and of where its pages
-- lie.
use Rattle.std.proofs.Common.{◌≡◌, ℕ, ◌+◌, suc, Bool, true, false, Option, Some, None, Result, Ok}
use Rattle.std.proofs.Common.{Err, List, length, refl, sym, ap, subst, ◌∙◌, inl, inr, is_some}
use Rattle.std.proofs.Common.{add-one}
use Rattle.std.proofs.lemmas.Bool.{cases_Bool}
use Rattle.std.specs.Prelude.{if◌then◌else◌}
use Rattle.numa_machine.specs.Machine.{Hardware}
use Rattle.numa_machine.specs.declared.rules.Rules.{Rules}
use Rattle.numa_maps.specs.Residents.{Kept}
use Rattle.numa_mode.specs.Policy.{Specification}
use Rattle.numa_placed.specs.Binds.{Asked}
use Rattle.numa_requests.specs.declared.command.Command.{Command}
use Rattle.numa_requests.specs.declared.event.CoreRefusal.{CoreRefusal}
use Rattle.numa_requests.specs.declared.event.CoreReply.{CoreReply}
use Rattle.numa_requests.specs.declared.event.CoreReply.TheVariants.{Accepted}
use Rattle.numa_requests.specs.declared.event.Event.TheVariants.{Accept}
use Rattle.numa_requests.specs.declared.page_refusal.PlacedRefusal.{PlacedRefusal}
use Rattle.numa_requests.specs.declared.page_refusal.PlacedRefusal.TheVariants as cause
use Rattle.numa_requests.specs.declared.refusal.Refusal.{Refusal}
use Rattle.numa_core.specs.World.{Setup, newest_published}
use Rattle.numa_core.specs.Steps.{accept_answer, because, refused_or, reply_of, world_after}
use Rattle.numa_core.specs.Standing.{CoreState, setup_of}
use Rattle.numa_space.specs.Refusals.{refusal_of}
use Rattle.numa_space.specs.Standing.{StandsFor}
use Rattle.numa_huge.specs.Moves.{HugeMemory}
use Rattle.numa_huge.specs.Tallies.{StandsForHuge}
use Rattle.numa_page_state.specs.Lying.{Lying, Process}
use Rattle.numa_page_state.specs.Outcomes.{Enough, Lack, Starved, is_starved, lack_of, lack_told}
use Rattle.numa_page_state.specs.Sending.{asked_of, command_of, rebinding_in, sent_in, sent_spots}
use Rattle.numa_page_state.specs.Sending.{tells_left, with_sent}
use Rattle.numa_page_state.specs.Standing.{HasSent, Lies, Sends}
use Rattle.numa_page_state.specs.Strict.{is_late, strict_binding_in}
use Rattle.numa_page_state.specs.declared.binding.Binding.{Binding}
use Rattle.numa_page_state.specs.declared.sending.Rebinding.{Rebinding}
use Rattle.numa_page_state.specs.declared.sending.Sending.{Sending}
use Rattle.numa_page_state.specs.declared.state.PageState.{PageState}
use Rattle.numa_script.specs.Replies.{reply_to}
use Rattle.numa_script.specs.declared.page_line.BoundPages.{BoundPages}
use Rattle.numa_script.specs.declared.page_line.BoundPages.TheVariants as bound
use Rattle.numa_script.specs.declared.page_line.MoveWords.{MoveWords}
use Rattle.numa_script.specs.declared.policy.WordError.{WordError}
use Rattle.numa_script.specs.declared.reply.Reply.{Reply}
use Rattle.numa_script.specs.declared.reply.Reply.TheVariants as reply
use Rattle.numa_run.specs.Answering.{Served, with_reply}
use Rattle.numa_run.specs.Obeying.{accepted_outcome, any_astray, astray_outcome, bound_command}
use Rattle.numa_run.specs.Obeying.{bound_outcome, command_reply, judged_by, moved_by}
use Rattle.numa_run.specs.Obeying.{sent_outcome, sent_unless, sent_where, sent_with, toucher_of}
use Rattle.numa_run.specs.Obeying.{unless_pages}
use Rattle.numa_run.specs.Standing.{IsFound, RunsAs, Serves, ServesIn}
use Rattle.numa_run.specs.States.{State, process_on, setup_with}
use Rattle.numa_run.specs.Work.{event_answer, unless_wanting, want_of}
use Rattle.numa_run.specs.declared.running.Running.{Running}
use Rattle.numa_run.proofs.Accepting.{Accepts, accepted-is, kept-pages, runs-then, served}
use Rattle.numa_run.proofs.Accepting.{serves-by, starved-or, state_then}
use Rattle.numa_run.proofs.Keeping.{none-huge}
use Rattle.numa_run.proofs.Processes.{process-same, process_by}

-- ---- a command that something stands against

-- lack of memory shows only where nothing else refuses a command
hidden : (want : Option CoreRefusal) (first : Option Refusal) (done : CoreReply)
    → is_some first ≡ true
    → unless_wanting want (refused_or (because first) done) ≡ refused_or (because first) done
hidden None first done some = refl
hidden (Some want) None done some = cc
hidden (Some want) (Some refusal) done some = refl

pub refused-alike : (machine : Hardware) (state : State) (command : Command) (lack : Lack)
    → is_some (refusal_of machine state.bounds state.world.history command) ≡ true
    → accepted_outcome lack machine state command
    ≡ accepted_outcome Enough machine state command
refused-alike machine state command lack some =
    let s : Setup = setup_with machine state.bounds in
    let shown = λ (told : Result CoreReply CoreRefusal). with_reply (reply_to told)
    (record state {
      world = world_after s state.world (newest_published state.world) (Accept command) told;
    }) in
    ap shown (hidden (if is_starved lack then want_of (Accept command) else None)
    (refusal_of machine state.bounds state.world.history command)
    (reply_of s state.world (newest_published state.world) (Accept command)) some)

-- ---- mbind .. strict

pub late-where : (rules : Rules) (first : Option Refusal) → is_late rules first ≡ false
    → is_some first ≡ true
late-where rules None late = cc
late-where rules (Some refusal) late = refl

module _ (old : Running) (command : Command) where
  abbrev pub plainly : Lack → Hardware → State → Served
  plainly lack machine state = accepted_outcome lack machine state command

  abbrev pub judges : Lack → Hardware → State → Served
  judges lack machine state =
      judged_by (strict_binding_in command) lack machine state command

  -- no page may refuse it
  pub judged-none : (new : Running) (answer : Reply) → strict_binding_in command ≡ None
      → Serves old answer new plainly → Serves old answer new judges
  judged-none new answer none = serves-by old new answer plainly judges
      (λ state stands lack.
      ap (λ (b : Option Binding). judged_by b lack old.core.space.machine state command) none)

  module _ (binding : Binding) (sets : strict_binding_in command ≡ Some binding)
      (astray : Bool)
      (found : (lying : Lying) (memory : Option HugeMemory) (history : List Command)
      → Lies old.pages lying → StandsForHuge old.huge memory → StandsFor old.core.space history
      → astray ≡ any_astray memory (process_by old.core.space history old.resident) lying.spots
      binding) where
    is-astray : (state : State) → RunsAs old state
        → any_astray state.huge (process_on old.core.space.machine state) state.lying.spots
        binding ≡ astray
    is-astray state stands =
        ap (λ (p : Process). any_astray state.huge p state.lying.spots binding)
        (sym (process-same old state stands))
        ∙ sym (found state.lying state.huge state.world.history stands.lies stands.huge
        stands.core.world.space)

    judged-is : (lack : Lack) (state : State) → RunsAs old state
        → judges lack old.core.space.machine state
        ≡ (if astray then astray_outcome lack old.core.space.machine state command
        else plainly lack old.core.space.machine state)
    judged-is lack state stands =
        ap (λ (b : Option Binding). judged_by b lack old.core.space.machine state command) sets
        ∙ ap (λ (b : Bool). if b then astray_outcome lack old.core.space.machine state command
        else plainly lack old.core.space.machine state) (is-astray state stands)

    -- no page lies astray
    pub judged-fair : (new : Running) (answer : Reply) → astray ≡ false
        → Serves old answer new plainly → Serves old answer new judges
    judged-fair new answer fair = serves-by old new answer plainly judges
        (λ state stands lack. judged-is lack state stands
        ∙ ap (λ (b : Bool). if b then astray_outcome lack old.core.space.machine state command
        else plainly lack old.core.space.machine state) fair)

    module _ (is : astray ≡ true) where
      judged-astray : (lack : Lack) (state : State) → RunsAs old state
          → judges lack old.core.space.machine state
          ≡ astray_outcome lack old.core.space.machine state command
      judged-astray lack state stands = judged-is lack state stands
          ∙ ap (λ (b : Bool). if b then astray_outcome lack old.core.space.machine state command
          else plainly lack old.core.space.machine state) is

      -- memory lacks for the trial
      pub judged-starved : Serves old (command_reply cause.NoMemory) old judges
      judged-starved = λ state stands.
          served old old (command_reply cause.NoMemory) judges state state Starved
          (judged-astray Starved state stands) stands

      module _ (late : Bool)
          (tried : (history : List Command) → StandsFor old.core.space history
          → late ≡ is_late old.core.space.machine.rules (refusal_of old.core.space.machine
          old.core.space.bounds history command)) where
        is-late : (state : State) → RunsAs old state
            → is_late old.core.space.machine.rules (refusal_of old.core.space.machine state.bounds
            state.world.history command) ≡ late
        is-late state stands =
            (λ i. is_late old.core.space.machine.rules (refusal_of old.core.space.machine
            (stands.core.bounds i) state.world.history command))
            ∙ sym (tried state.world.history stands.core.world.space)

        late-is : (state : State) → RunsAs old state
            → judges Enough old.core.space.machine state
            ≡ (if late then with_reply (command_reply cause.Astray) state
            else plainly Enough old.core.space.machine state)
        late-is state stands = judged-astray Enough state stands
            ∙ ap (λ (b : Bool). if b then with_reply (command_reply cause.Astray) state
            else plainly Enough old.core.space.machine state) (is-late state stands)

        -- the pages are judged before what stands against the command
        pub judged-late : late ≡ true → Serves old (command_reply cause.Astray) old judges
        judged-late yes_late = λ state stands.
            served old old (command_reply cause.Astray) judges state state Enough
            (late-is state stands ∙ ap (λ (b : Bool).
            if b then with_reply (command_reply cause.Astray) state
            else plainly Enough old.core.space.machine state) yes_late) stands

        pub judged-early : (new : Running) (answer : Reply) → late ≡ false
            → Serves old answer new plainly → Serves old answer new judges
        judged-early new answer early serves = λ state stands.
            let s = serves state stands in
            let some = late-where old.core.space.machine.rules (refusal_of old.core.space.machine
            state.bounds state.world.history command) (is-late state stands ∙ early) in
            let same : judges Enough old.core.space.machine state
            ≡ plainly s.0 old.core.space.machine state = late-is state stands
            ∙ ap (λ (b : Bool). if b then with_reply (command_reply cause.Astray) state
            else plainly Enough old.core.space.machine state) early
            ∙ sym (refused-alike old.core.space.machine state command s.0 some) in (
              Enough,
              ap (λ (r : Served). r.answer) same ∙ s.1,
              subst (λ (r : Served). RunsAs new r.state) (sym same) s.2,
            )

-- ---- mbind .. move

pub starved-why : (why : PlacedRefusal) → is_starved (lack_told why) ≡ true → why ≡ cause.NoMemory
starved-why cause.NoMemory is = refl
starved-why cause.Unaligned is = cc
starved-why cause.OutOfSpace is = cc
starved-why cause.NoSuchNode is = cc
starved-why cause.Occupied is = cc
starved-why cause.NodesNotAllowed is = cc
starved-why cause.Astray is = cc
starved-why cause.BadCpu is = cc
starved-why cause.Unmapped is = cc
starved-why cause.NoRoom is = cc
starved-why cause.TooManyRuns is = cc

-- one command more is accepted, where nothing refuses it
same-version : (one other : ℕ) → accept_answer (Ok one) ≡ Ok (Accepted other) → one ≡ other
same-version one other is = cc

pub accepted-version : (s : Setup) (state : State) (command : Command) (version : ℕ)
    → refusal_of s.machine s.bounds state.world.history command ≡ None
    → accept_answer (Ok version) ≡ event_answer Enough s state.world (Accept command)
    → version ≡ suc (length state.world.history)
accepted-version s state command version free is =
    same-version version (length state.world.history + 1)
    (is ∙ ap (λ (o : Option Refusal). refused_or (because o)
    (Accepted (length state.world.history + 1))) free)
    ∙ add-one (length state.world.history)

module _ (old : Running) (said : Rebinding) (words : MoveWords) (pages : Option PageState)
    (lies : (lying : Lying) → Lies old.pages lying → Lies pages lying) where
  abbrev first : State → Option Refusal
  first state = refusal_of old.core.space.machine state.bounds state.world.history
      (command_of said)

  abbrev pub sends : Lack → Hardware → State → Served
  sends lack machine state = sent_unless lack
      (refusal_of machine state.bounds state.world.history (command_of said)) machine state said
      words

  -- what `sent_from` promises
  abbrev pub SendsFrom : Result (Option Sending) PlacedRefusal → Type 0
  SendsFrom found = (history : List Command) (lying : Lying) → StandsFor old.core.space history
      → Lies old.pages lying
      → Sends (process_by old.core.space history old.resident) said (toucher_of words) lying found

  pub sends-that : (found wanted : Result (Option Sending) PlacedRefusal) → found ≡ wanted
      → SendsFrom found → SendsFrom wanted
  sends-that found wanted is all = subst SendsFrom is all

  abbrev pub here : Running
  here = record { core = old.core; resident = old.resident; pages = pages; huge = old.huge }

  sends-here : (found : Result (Option Sending) PlacedRefusal) → SendsFrom found
      → (state : State) → RunsAs old state
      → Sends (process_on old.core.space.machine state) said (toucher_of words) state.lying found
  sends-here found all state stands =
      subst (λ (p : Process). Sends p said (toucher_of words) state.lying found)
      (process-same old state stands)
      (all state.world.history state.lying stands.core.world.space stands.lies)

  -- pages of 2 MiB may go too
  pub send-both : (new : Running) (answer : Reply) (sent : Sending)
      → SendsFrom (Ok (Some sent))
      → ((state : State) → RunsAs here state
      → IsFound old.core.space.machine state said words sent → ServesIn here answer new sends state)
      → Serves old answer new sends
  send-both new answer sent all serves = λ state stands.
      serves state (kept-pages old state pages stands (lies state.lying stands.lies))
      (sends-here (Ok (Some sent)) all state stands)

  passes : (o : Option Refusal) (machine : Hardware) (state : State) → is_some o ≡ true
      → sent_unless Enough o machine state said words
      ≡ accepted_outcome Enough machine state (command_of said)
  passes None machine state some = cc
  passes (Some refusal) machine state some = refl

  -- something refuses the policy
  pub send-refused : (new : Running) (answer : Reply) → SendsFrom (Ok None)
      → Serves here answer new (λ lack machine state.
      accepted_outcome lack machine state (command_of said))
      → Serves old answer new sends
  send-refused new answer all serves = λ state stands.
      let some = sends-here (Ok None) all state stands in
      let s = serves state (kept-pages old state pages stands (lies state.lying stands.lies)) in
      let same : sends Enough old.core.space.machine state
      ≡ accepted_outcome s.0 old.core.space.machine state (command_of said) =
      passes (first state) old.core.space.machine state some
      ∙ sym (refused-alike old.core.space.machine state (command_of said) s.0 some) in (
        Enough,
        ap (λ (r : Served). r.answer) same ∙ s.1,
        subst (λ (r : Served). RunsAs new r.state) (sym same) s.2,
      )

  -- what it comes to where nothing refuses the policy
  send-free : (lack : Lack) (state : State) → is_starved lack ≡ false → first state ≡ None
      → sends lack old.core.space.machine state
      ≡ unless_pages (lack_of lack (sent_spots (asked_of (process_on old.core.space.machine state)
      said (toucher_of words)) state.lying)) state
      (sent_outcome old.core.space.machine state said words)
  send-free lack state serves free =
      ap (λ (b : Bool). if b then with_reply (command_reply cause.NoMemory) state
      else sent_where (first state) lack old.core.space.machine state said words) serves
      ∙ ap (λ (o : Option Refusal).
      sent_where o lack old.core.space.machine state said words) free

  -- runs or memory lack
  pub send-denied : (why : PlacedRefusal) → SendsFrom (Err why)
      → Serves old (command_reply why) here sends
  send-denied why all = λ state stands.
      let runs = kept-pages old state pages stands (lies state.lying stands.lies) in
      elim (cases_Bool (is_starved (lack_told why))) [
        | inl t ↦ served old here (command_reply why) sends state state Starved
            (ap (λ (r : PlacedRefusal). with_reply (command_reply r) state)
            (sym (starved-why why t))) runs
        | inr e ↦
            let so = sends-here (Err why) all state stands e in
            served old here (command_reply why) sends state state (lack_told why)
            (send-free (lack_told why) state e so.0
            ∙ ap (λ (o : Option PlacedRefusal). unless_pages o state
            (sent_outcome old.core.space.machine state said words)) so.1) runs
      ]

  module _ (core : CoreState) (same : setup_of core ≡ setup_of old.core) where
    -- memory lacked when the policy was to be set
    pub send-starved : (refusal : Refusal) → Accepts old.core (command_of said) (Err refusal) core
        → Serves old (command_reply cause.NoMemory)
        (record { core = core; resident = old.resident; pages = pages; huge = old.huge }) sends
    send-starved refusal accepts = λ state stands.
        served old (record { core = core; resident = old.resident; pages = pages; huge = old.huge })
        (command_reply cause.NoMemory) sends state state Starved refl
        (runs-then old (command_of said) (Err refusal) core accepts same state stands pages
        state.lying (lies state.lying stands.lies))

    -- the policy is set, and the pages went, of which none has 2 MiB
    pub send-done : old.huge ≡ None → (version : ℕ) (done : Sending)
        (pages_then : Option PageState) (late : Bool)
        → Accepts old.core (command_of said) (Ok version) core → SendsFrom (Ok (Some done))
        → ((lying : Lying) (kept : Kept) (asked : Asked) → Lies pages lying
        → HasSent done kept asked lying → Lies pages_then (with_sent kept asked lying))
        → late ≡ tells_left words.strict said.spec done.left
        → Serves old (reply.Sent version done.moved done.left late)
        (record { core = core; resident = old.resident; pages = pages_then; huge = old.huge }) sends
    send-done plain version done pages_then late accepts all settles tells = λ state stands.
        let new : Running = record {
          core = core;
          resident = old.resident;
          pages = pages_then;
          huge = old.huge;
        } in
        let machine = old.core.space.machine in
        let so = sends-here (Ok (Some done)) all state stands in
        let asked = asked_of (process_on machine state) said (toucher_of words) in
        let lying : Lying = with_sent state.resident asked state.lying in
        let lies_then : Lies pages_then lying = settles state.lying state.resident asked
        (lies state.lying stands.lies) so.1 in
        let after : State = record (state_then old (command_of said) (Ok version) core accepts same
        state stands) { lying = lying } in
        elim (starved-or old (command_of said) (Ok version) core accepts same state stands) [
          | inl is ↦
              let free : refusal_of (setup_of old.core).machine (setup_of old.core).bounds
              state.world.history (command_of said) ≡ None =
              (λ i. refusal_of machine (sym stands.core.bounds i) state.world.history
              (command_of said)) ∙ so.0 in
              let counts : version ≡ suc (length state.world.history) = accepted-version
              (setup_of old.core) state (command_of said) version free is in
              let sent = sent_in state.resident asked state.lying in
              let lateness : late ≡ tells_left words.strict said.spec sent.left =
              tells ∙ ap (tells_left words.strict said.spec) so.1.left in
              let told : sent_outcome machine state said words
              ≡ with_reply (reply.Sent version done.moved done.left late)
              (record (accepted_outcome Enough machine state (command_of said)).state {
                lying = lying;
              }) = ap (λ (m : Option HugeMemory). sent_with m machine state said words)
              (none-huge old.huge state.huge plain stands.huge) ∙ λ i. with_reply
              (reply.Sent (sym counts i) (sym so.1.moved i) (sym so.1.left i) (sym lateness i))
              (record (accepted_outcome Enough machine state (command_of said)).state {
                lying = lying;
              }) in
              let state_is = ap (λ (s : Served). with_reply
              (reply.Sent version done.moved done.left late) (record s.state { lying = lying }))
              (accepted-is old (command_of said) (Ok version) core accepts same state stands Enough
              is) in
              served old new (reply.Sent version done.moved done.left late) sends state after Enough
              (send-free Enough state refl so.0 ∙ told ∙ state_is)
              (runs-then old (command_of said) (Ok version) core accepts same state stands
              pages_then lying lies_then)
          | inr lack ↦ cc
        ]

-- ---- every mbind with words behind its policy

module _ (old : Running) (pages : BoundPages) (start bytes : ℕ)
    (policy : Result Specification WordError) (found : Result Command WordError)
    (is : found ≡ bound_command old.core.space.machine.rules start bytes policy) where
  abbrev pub binds : Lack → Hardware → State → Served
  binds lack machine state = bound_outcome lack machine state pages
      (bound_command machine.rules start bytes policy)

  pub bound-by : (new : Running) (answer : Reply) (serve : Lack → Hardware → State → Served)
      → ((lack : Lack) (state : State)
      → bound_outcome lack old.core.space.machine state pages found
      ≡ serve lack old.core.space.machine state)
      → Serves old answer new serve → Serves old answer new binds
  bound-by new answer serve right = serves-by old new answer serve binds
      (λ state stands lack. ap (λ (r : Result Command WordError).
      bound_outcome lack old.core.space.machine state pages r) (sym is) ∙ right lack state)

  bad-word : (words : BoundPages) (fault : WordError) (state : State)
      → bound_outcome Enough old.core.space.machine state words (Err fault)
      ≡ with_reply (reply.BadWord fault) state
  bad-word bound.Strict fault state = refl
  bad-word (bound.Move words) fault state = refl

  -- a fault of the policy
  pub bound-fault : (fault : WordError) → found ≡ Err fault
      → Serves old (reply.BadWord fault) old binds
  bound-fault fault fails = λ state stands.
      served old old (reply.BadWord fault) binds state state Enough
      (ap (λ (r : Result Command WordError).
      bound_outcome Enough old.core.space.machine state pages r) (sym is ∙ fails)
      ∙ bad-word pages fault state) stands

  pub bound-strict : (new : Running) (answer : Reply) (command : Command) → found ≡ Ok command
      → pages ≡ bound.Strict
      → Serves old answer new (λ lack machine state.
      judged_by (strict_binding_in command) lack machine state command)
      → Serves old answer new binds
  bound-strict new answer command so strict = bound-by new answer
      (λ lack machine state. judged_by (strict_binding_in command) lack machine state command)
      (λ lack state. λ i. bound_outcome lack old.core.space.machine state (strict i) (so i))

  pub bound-moving : (new : Running) (answer : Reply) (command : Command) (words : MoveWords)
      → found ≡ Ok command → pages ≡ bound.Move words
      → Serves old answer new (λ lack machine state.
      moved_by (rebinding_in command) lack machine state command words)
      → Serves old answer new binds
  bound-moving new answer command words so moves = bound-by new answer
      (λ lack machine state. moved_by (rebinding_in command) lack machine state command words)
      (λ lack state. λ i. bound_outcome lack old.core.space.machine state (moves i) (so i))

-- by the policy that the command sets
pub moved-by : (old new : Running) (answer : Reply) (command : Command) (words : MoveWords)
    (found : Option Rebinding) → found ≡ rebinding_in command
    → Serves old answer new (λ lack machine state. moved_by found lack machine state command
    words)
    → Serves old answer new (λ lack machine state. moved_by (rebinding_in command) lack
    machine state command words)
moved-by old new answer command words found is serves =
    subst (λ (o : Option Rebinding). Serves old answer new (λ lack machine state.
    moved_by o lack machine state command words)) is serves
