-- What `mems` and `unmap` make of a running machine, and of where its pages lie.
use Rattle.std.proofs.Common.{◌≡◌, ◌≢◌, ℕ, Bool, true, false, Option, Some, None, Result, Ok, Err}
use Rattle.std.proofs.Common.{◌∷◌, refl, sym, ap, subst, ◌∙◌, inl, inr}
use Rattle.std.specs.Option.{option_map}
use Rattle.std.specs.Prelude.{is_err, if◌then◌else◌}
use Rattle.numa_machine.specs.Machine.{Hardware}
use Rattle.numa_maps.specs.Residents.{Kept}
use Rattle.numa_placed.specs.Laid.{Laid}
use Rattle.numa_requests.specs.declared.command.Command.{Command}
use Rattle.numa_requests.specs.declared.command.Command.TheVariants.{Map, Unmap, Mbind, SetTask}
use Rattle.numa_requests.specs.declared.command.Command.TheVariants.{Inherit, SetHome, SetWeight}
use Rattle.numa_requests.specs.declared.command.Command.TheVariants.{SetMems}
use Rattle.numa_requests.specs.declared.event.CoreRefusal.{CoreRefusal}
use Rattle.numa_requests.specs.declared.event.CoreReply.{CoreReply}
use Rattle.numa_requests.specs.declared.event.Event.TheVariants.{Accept}
use Rattle.numa_requests.specs.declared.page_refusal.PlacedRefusal.{PlacedRefusal}
use Rattle.numa_requests.specs.declared.page_refusal.PlacedRefusal.TheVariants as cause
use Rattle.numa_requests.specs.declared.refusal.Refusal.{Refusal}
use Rattle.numa_core.specs.World.{Setup, World, newest_published}
use Rattle.numa_core.specs.Steps.{IsAnswer, accept_answer, version_of}
use Rattle.numa_core.specs.declared.acceptance.Acceptance.{Acceptance}
use Rattle.numa_core.specs.Standing.{CoreState, setup_of}
use Rattle.numa_space.specs.History.{page_count, page_of}
use Rattle.numa_space.specs.Policies.{allowed_nodes}
use Rattle.numa_huge.specs.Moves.{HugeMemory}
use Rattle.numa_huge.specs.Tallies.{StandsForHuge}
use Rattle.numa_huge.specs.declared.pages.HugePages.{HugePages}
use Rattle.numa_page_state.specs.Huge.{has_huge_in, huge_followed}
use Rattle.numa_page_state.specs.Lying.{Lying, with_spots}
use Rattle.numa_page_state.specs.Outcomes.{Crowded, Enough, Lack, Starved, followed, forgotten}
use Rattle.numa_page_state.specs.Outcomes.{lack_told}
use Rattle.numa_page_state.specs.Standing.{Forgets, Lies, Replaces}
use Rattle.numa_page_state.specs.declared.state.PageState.{PageState}
use Rattle.numa_script.specs.Replies.{reply_to}
use Rattle.numa_script.specs.declared.reply.Reply.{Reply}
use Rattle.numa_run.specs.Answering.{Served, with_reply}
use Rattle.numa_run.specs.Obeying.{accepted_outcome, command_reply, is_accepted, lying_so}
use Rattle.numa_run.specs.Obeying.{mems_outcome, mems_where, obeyed, small_unmap, unmap_outcome}
use Rattle.numa_run.specs.Obeying.{unmap_where, with_huge, with_lying}
use Rattle.numa_run.specs.Standing.{RunsAs, Serves}
use Rattle.numa_run.specs.States.{State}
use Rattle.numa_run.specs.Work.{event_answer}
use Rattle.numa_run.specs.declared.running.Running.{Running}
use Rattle.numa_run.proofs.Accepting.{Accepts, also-is, laid-is, runs-both, runs-then, served}
use Rattle.numa_run.proofs.Accepting.{serves-by}
use Rattle.numa_run.proofs.Accepting.{starved-or, state_then, told}

-- ---- mems

-- it wants no memory
mems-told : (lack : Lack) (s : Setup) (world : World) (mask : ℕ)
    (answer : Result CoreReply CoreRefusal)
    → IsAnswer s world (newest_published world) (Accept (SetMems mask)) answer
    → answer ≡ event_answer lack s world (Accept (SetMems mask))
mems-told Enough s world mask answer (inl is) = is
mems-told Crowded s world mask answer (inl is) = is
mems-told Starved s world mask answer (inl is) = is
mems-told lack s world mask answer (inr want) = absurd want.1.1

-- what `follow_where` promises
abbrev pub Follows : Running → ℕ → ℕ → Option PageState → Type 0
Follows old before later pages = (lying : Lying) (kept : Kept) → Lies old.pages lying
    → old.resident ≡ kept → (lack : Lack) × Lies pages (followed lack before later kept lying)

-- what `follow_if` promises, and `follows_in`
abbrev pub FollowHuge : Running → Bool → ℕ → ℕ → Option HugePages → Type 0
FollowHuge old follows before later huge = (lying : Lying) (memory : Option HugeMemory)
    → Lies old.pages lying → StandsForHuge old.huge memory
    → StandsForHuge huge (option_map (huge_followed lying.follows before later) memory)

pub follow-huge : (old : Running) (follows : Bool) (before later : ℕ) (huge : Option HugePages)
    → ((lying : Lying) → Lies old.pages lying → follows ≡ lying.follows)
    → ((memory : Option HugeMemory) → StandsForHuge old.huge memory
    → StandsForHuge huge (option_map (huge_followed follows before later) memory))
    → FollowHuge old follows before later huge
follow-huge old follows before later huge is goes = λ lying memory lies stands.
    subst (λ (b : Bool). StandsForHuge huge (option_map (huge_followed b before later) memory))
    (is lying lies) (goes memory stands)

-- pages lie so once the core accepted it
abbrev mems_more : Lack → ℕ → ℕ → State → Served → Served
mems_more lack before later state done =
    with_huge (option_map (huge_followed state.lying.follows before later) state.huge)
    (with_lying (followed lack before later state.resident state.lying) done)

-- what it comes to, whether pages of 2 MiB are kept or not
mems-is : (lack : Lack) (machine : Hardware) (state : State) (mask : ℕ)
    (memory : Option HugeMemory) → state.huge ≡ memory
    → mems_where memory lack machine state mask
    ≡ (if is_accepted lack machine state (SetMems mask)
    then mems_more lack (allowed_nodes machine state.world.history)
    (allowed_nodes machine (SetMems mask ∷ state.world.history)) state
    (accepted_outcome lack machine state (SetMems mask))
    else accepted_outcome lack machine state (SetMems mask))
mems-is lack machine state mask None none =
    let before : ℕ = allowed_nodes machine state.world.history in
    let later : ℕ = allowed_nodes machine (SetMems mask ∷ state.world.history) in
    let done : Served = accepted_outcome lack machine state (SetMems mask) in
    let lying : Lying = followed lack before later state.resident state.lying in
    ap (λ (h : Option HugeMemory). if is_accepted lack machine state (SetMems mask)
    then with_huge h (with_lying lying done) else done)
    (none ∙ ap (option_map (huge_followed state.lying.follows before later)) (sym none))
mems-is lack machine state mask (Some memory) some =
    let before : ℕ = allowed_nodes machine state.world.history in
    let later : ℕ = allowed_nodes machine (SetMems mask ∷ state.world.history) in
    let done : Served = accepted_outcome lack machine state (SetMems mask) in
    let lying : Lying = followed lack before later state.resident state.lying in
    ap (λ (h : Option HugeMemory). if is_accepted lack machine state (SetMems mask)
    then with_huge (option_map (huge_followed state.lying.follows before later) h)
    (with_lying lying done) else done) (sym some)

module _ (old : Running) (mask : ℕ) (core : CoreState)
    (same : setup_of core ≡ setup_of old.core) where
  abbrev pub MemsServed : Reply → Option PageState → Option HugePages → Type 0
  MemsServed answer pages huge = Serves old answer
      (record { core = core; resident = old.resident; pages = pages; huge = huge })
      (λ lack machine state. mems_outcome lack machine state mask)

  mems-refused : (refusal : Refusal)
      → Accepts old.core (SetMems mask) (Err refusal) core
      → MemsServed (reply_to (accept_answer (Err refusal))) old.pages old.huge
  mems-refused refusal accepts = λ state stands.
      let here = told old (SetMems mask) (Err refusal) core accepts same state stands in
      let machine = old.core.space.machine in
      served old (record old { core = core }) (reply_to (accept_answer (Err refusal)))
      (λ lack machine s. mems_outcome lack machine s mask) state state here.0
      (mems-is here.0 machine state mask state.huge refl
      ∙ also-is old (SetMems mask) (Err refusal) core accepts same state stands here.0 here.1
      (mems_more here.0 (allowed_nodes machine state.world.history)
      (allowed_nodes machine (SetMems mask ∷ state.world.history)) state))
      (runs-then old (SetMems mask) (Err refusal) core accepts same state stands old.pages
      state.lying stands.lies)

  mems-followed : (version : ℕ) (pages : Option PageState) (huge : Option HugePages)
      (follows : Bool) → Accepts old.core (SetMems mask) (Ok version) core
      → Follows old old.core.space.allowed core.space.allowed pages
      → FollowHuge old follows old.core.space.allowed core.space.allowed huge
      → MemsServed (reply_to (accept_answer (Ok version))) pages huge
  mems-followed version pages huge follows accepts goes goes_huge = λ state stands.
      let gone = goes state.lying state.resident stands.lies stands.resident in
      let took = accepts state.world stands.core.world in
      let is = mems-told gone.0 (setup_of old.core) state.world mask (accept_answer (Ok version))
      took.0 in
      let machine = old.core.space.machine in
      let before : ℕ = allowed_nodes machine state.world.history in
      let later : ℕ = allowed_nodes machine (SetMems mask ∷ state.world.history) in
      let from : old.core.space.allowed ≡ before = stands.core.world.space.allowed in
      let to : core.space.allowed ≡ later = took.1.space.allowed
      ∙ ap (λ (s : Setup). allowed_nodes s.machine (SetMems mask ∷ state.world.history)) same in
      let lying : Lying = followed gone.0 before later state.resident state.lying in
      let lies : Lies pages lying =
      subst (λ (n : ℕ). Lies pages (followed gone.0 before n state.resident state.lying)) to
      (subst (λ (n : ℕ). Lies pages (followed gone.0 n core.space.allowed state.resident
      state.lying)) from gone.1) in
      let memory : Option HugeMemory =
      option_map (huge_followed state.lying.follows before later) state.huge in
      let kept : StandsForHuge huge memory =
      subst (λ (n : ℕ). StandsForHuge huge
      (option_map (huge_followed state.lying.follows before n) state.huge)) to
      (subst (λ (n : ℕ). StandsForHuge huge
      (option_map (huge_followed state.lying.follows n core.space.allowed) state.huge)) from
      (goes_huge state.lying state.huge stands.lies stands.huge)) in
      served old (record { core = core; resident = old.resident; pages = pages; huge = huge })
      (reply_to (accept_answer (Ok version)))
      (λ lack machine s. mems_outcome lack machine s mask) state
      (record (state_then old (SetMems mask) (Ok version) core accepts same state stands) {
        lying = lying;
        huge = memory;
      }) gone.0
      (mems-is gone.0 machine state mask state.huge refl
      ∙ also-is old (SetMems mask) (Ok version) core accepts same state stands gone.0 is
      (mems_more gone.0 before later state))
      (runs-both old (SetMems mask) (Ok version) core accepts same state stands pages lying huge
      memory lies kept)

  pub mems-stays : (result : Result Acceptance Refusal) → is_err result ≡ true
      → Accepts old.core (SetMems mask) (version_of result) core
      → MemsServed (reply_to (accept_answer (version_of result))) old.pages old.huge
  mems-stays (Ok acceptance) e accepts = cc
  mems-stays (Err refusal) e accepts = mems-refused refusal accepts

  pub mems-goes : (result : Result Acceptance Refusal) → is_err result ≡ false
      → (pages : Option PageState) (huge : Option HugePages) (follows : Bool)
      → Accepts old.core (SetMems mask) (version_of result) core
      → (before later : ℕ) → before ≡ old.core.space.allowed → later ≡ core.space.allowed
      → Follows old before later pages → FollowHuge old follows before later huge
      → MemsServed (reply_to (accept_answer (version_of result))) pages huge
  mems-goes (Ok acceptance) e pages huge follows accepts before later from to goes goes_huge =
      mems-followed acceptance.version pages huge follows accepts
      (subst (λ (n : ℕ). Follows old old.core.space.allowed n pages) to
      (subst (λ (n : ℕ). Follows old n later pages) from goes))
      (subst (λ (n : ℕ). FollowHuge old follows old.core.space.allowed n huge) to
      (subst (λ (n : ℕ). FollowHuge old follows n later huge) from goes_huge))
  mems-goes (Err refusal) e pages huge follows accepts before later from to goes goes_huge = cc

-- ---- unmap

module _ (old : Running) (start bytes : ℕ) where
  abbrev pub unmaps : Lack → Hardware → State → Served
  unmaps lack machine state = small_unmap lack machine state start bytes

  -- pages stand against it
  pub unmap-denied : (why : PlacedRefusal) → Forgets old.pages start bytes (Err why)
      → Serves old (command_reply why) old unmaps
  unmap-denied why forgets = λ state stands.
      let f = forgets state.lying stands.lies in
      let is : unmaps (lack_told why) old.core.space.machine state
      ≡ with_reply (command_reply why) state = rw (f.0, f.1) refl in
      served old old (command_reply why) unmaps state state (lack_told why) is stands

  -- nothing was stated of the span
  pub unmap-plain : (new : Running) (answer : Reply) → Forgets old.pages start bytes (Ok None)
      → Serves old answer new (λ lack machine state.
      accepted_outcome lack machine state (Unmap start bytes))
      → Serves old answer new unmaps
  unmap-plain new answer forgets serves = serves-by old new answer
      (λ lack machine state. accepted_outcome lack machine state (Unmap start bytes)) unmaps
      (λ state stands lack. rw (forgets state.lying stands.lies) refl) serves

  module _ (core : CoreState) (same : setup_of core ≡ setup_of old.core)
      (after : Laid) (forgets : Forgets old.pages start bytes (Ok (Some after))) where
    abbrev pub UnmapServed : Reply → Option PageState → Type 0
    UnmapServed answer pages = Serves old answer
        (record { core = core; resident = old.resident; pages = pages; huge = old.huge }) unmaps

    abbrev lying_then : State → Lying
    lying_then state = with_spots (forgotten start bytes state.lying.spots) state.lying

    -- what it comes to, with memory or without
    enough : (state : State) → RunsAs old state
        → unmaps Enough old.core.space.machine state
        ≡ lying_so Enough old.core.space.machine state (Unmap start bytes) (lying_then state)
    enough state stands =
        let f = forgets state.lying stands.lies in rw f.0 refl

    lacks : (state : State) → RunsAs old state
        → unmaps Starved old.core.space.machine state
        ≡ with_reply (command_reply cause.NoMemory) state
    lacks state stands =
        let f = forgets state.lying stands.lies in rw f.0 refl

    unmap-refused : (refusal : Refusal) → Accepts old.core (Unmap start bytes) (Err refusal) core
        → UnmapServed (reply_to (accept_answer (Err refusal))) old.pages
    unmap-refused refusal accepts = λ state stands.
        let new : Running = record old { core = core } in
        let runs : RunsAs new state = runs-then old (Unmap start bytes) (Err refusal) core accepts
        same state stands old.pages state.lying stands.lies in
        elim (starved-or old (Unmap start bytes) (Err refusal) core accepts same state stands) [
          | inl is ↦ served old new (reply_to (accept_answer (Err refusal))) unmaps state state
              Enough (enough state stands ∙ laid-is old (Unmap start bytes) (Err refusal) core
              accepts same state stands Enough is (lying_then state)) runs
          | inr lack ↦ served old new (reply_to (accept_answer (Err refusal))) unmaps state state
              Starved (lacks state stands
              ∙ ap (λ (r : Reply). with_reply r state) (sym lack.0)) runs
        ]

    unmap-done : (version : ℕ) (pages : Option PageState)
        → Accepts old.core (Unmap start bytes) (Ok version) core
        → Replaces old.pages after pages
        → UnmapServed (reply_to (accept_answer (Ok version))) pages
    unmap-done version pages accepts replaces = λ state stands.
        let f = forgets state.lying stands.lies in
        let new : Running = record old { core = core; pages = pages } in
        let answer : Reply = reply_to (accept_answer (Ok version)) in
        let lies : Lies pages (lying_then state) = replaces state.lying
        (forgotten start bytes state.lying.spots) stands.lies f.1 f.2 in
        elim (starved-or old (Unmap start bytes) (Ok version) core accepts same state stands) [
          | inl is ↦ served old new answer unmaps state (record (state_then old
              (Unmap start bytes) (Ok version) core accepts same state stands) {
                lying = lying_then state;
              }) Enough
              (enough state stands ∙ laid-is old (Unmap start bytes) (Ok version) core accepts
              same state stands Enough is (lying_then state))
              (runs-then old (Unmap start bytes) (Ok version) core accepts same state stands pages
              (lying_then state) lies)
          | inr lack ↦ cc
        ]

    pub unmap-stays : (result : Result Acceptance Refusal) → is_err result ≡ true
        → Accepts old.core (Unmap start bytes) (version_of result) core
        → UnmapServed (reply_to (accept_answer (version_of result))) old.pages
    unmap-stays (Ok acceptance) e accepts = cc
    unmap-stays (Err refusal) e accepts = unmap-refused refusal accepts

    pub unmap-goes : (result : Result Acceptance Refusal) → is_err result ≡ false
        → (pages : Option PageState)
        → Accepts old.core (Unmap start bytes) (version_of result) core
        → Replaces old.pages after pages
        → UnmapServed (reply_to (accept_answer (version_of result))) pages
    unmap-goes (Ok acceptance) e pages accepts replaces =
        unmap-done acceptance.version pages accepts replaces
    unmap-goes (Err refusal) e pages accepts replaces = cc

-- no page of 2 MiB is in the span
unmap-where : (memory : Option HugeMemory) (lack : Lack) (machine : Hardware) (state : State)
    (start bytes : ℕ) → has_huge_in memory (page_of start) (page_count bytes) ≡ false
    → unmap_where memory lack machine state start bytes
    ≡ small_unmap lack machine state start bytes
unmap-where None lack machine state start bytes none = refl
unmap-where (Some memory) lack machine state start bytes none = rw none refl

pub unmap-small : (old new : Running) (answer : Reply) (start bytes : ℕ) (found : Bool)
    → ((memory : Option HugeMemory) → StandsForHuge old.huge memory
    → found ≡ has_huge_in memory (page_of start) (page_count bytes)) → found ≡ false
    → Serves old answer new (λ lack machine state. small_unmap lack machine state start bytes)
    → Serves old answer new (λ lack machine state. unmap_outcome lack machine state start bytes)
unmap-small old new answer start bytes found has none = serves-by old new answer
    (λ lack machine state. small_unmap lack machine state start bytes)
    (λ lack machine state. unmap_outcome lack machine state start bytes)
    (λ state stands lack. unmap-where state.huge lack old.core.space.machine state start bytes
    (sym (has state.huge stands.huge) ∙ none))

-- ---- every other command

obeyed-is : (command : Command) → ((mask : ℕ) → command ≢ SetMems mask)
    → ((start bytes : ℕ) → command ≢ Unmap start bytes)
    → (lack : Lack) (machine : Hardware) (state : State)
    → obeyed lack machine state command ≡ accepted_outcome lack machine state command
obeyed-is (SetMems mask) no_mems no_unmap lack machine state = absurd (no_mems mask refl)
obeyed-is (Unmap start bytes) no_mems no_unmap lack machine state =
    absurd (no_unmap start bytes refl)
obeyed-is (Map start bytes offset size) no_mems no_unmap lack machine state = refl
obeyed-is (Mbind start bytes spec) no_mems no_unmap lack machine state = refl
obeyed-is (SetTask task spec) no_mems no_unmap lack machine state = refl
obeyed-is (Inherit task from) no_mems no_unmap lack machine state = refl
obeyed-is (SetHome start bytes node) no_mems no_unmap lack machine state = refl
obeyed-is (SetWeight node weight) no_mems no_unmap lack machine state = refl

pub obeyed-plainly : (old new : Running) (answer : Reply) (command : Command)
    → ((mask : ℕ) → command ≢ SetMems mask) → ((start bytes : ℕ) → command ≢ Unmap start bytes)
    → Serves old answer new (λ lack machine state.
    accepted_outcome lack machine state command)
    → Serves old answer new (λ lack machine state. obeyed lack machine state command)
obeyed-plainly old new answer command no_mems no_unmap serves = serves-by old new answer
    (λ lack machine state. accepted_outcome lack machine state command)
    (λ lack machine state. obeyed lack machine state command)
    (λ state stands lack.
    obeyed-is command no_mems no_unmap lack old.core.space.machine state) serves
