-- What a mapping of pages of 2 MiB makes of a running machine.
use Rattle.std.proofs.Common.{◌≡◌, ℕ, Bool, true, false, Option, Some, None, Result}
use Rattle.std.proofs.Common.{List, refl, sym, ap, subst, ◌∙◌}
use Rattle.std.specs.Prelude.{◌&&◌, if◌then◌else◌, is_err}
use Rattle.numa_machine.specs.Machine.{Hardware}
use Rattle.numa_machine.specs.declared.page_size.PageSize.TheVariants.{Huge}
use Rattle.numa_mode.specs.Policy.{PolicyRecord}
use Rattle.numa_requests.specs.declared.command.Command.{Command}
use Rattle.numa_requests.specs.declared.command.Command.TheVariants.{Map}
use Rattle.numa_requests.specs.declared.page_refusal.PlacedRefusal.{PlacedRefusal}
use Rattle.numa_requests.specs.declared.page_refusal.PlacedRefusal.TheVariants as cause
use Rattle.numa_requests.specs.declared.refusal.Refusal.{Refusal}
use Rattle.numa_core.specs.Steps.{accept_answer, version_of}
use Rattle.numa_core.specs.declared.acceptance.Acceptance.{Acceptance}
use Rattle.numa_core.specs.Standing.{CoreState, setup_of}
use Rattle.numa_space.specs.Policies.{allowed_nodes, task_record}
use Rattle.numa_space.specs.Refusals.{refusal_of}
use Rattle.numa_space.specs.Standing.{StandsFor}
use Rattle.numa_pools.specs.Pools.{PoolCounts, lacks_pages, refusing}
use Rattle.numa_huge.specs.Huge.{HugeLying, HugePlaced, fits, fresh_spot, lack_for, mapping}
use Rattle.numa_huge.specs.Huge.{places_of, too_many, with_span}
use Rattle.numa_huge.specs.Tallies.{IsLackFor, IsMemory}
use Rattle.numa_huge.specs.Moves.{HugeMemory}
use Rattle.numa_huge.specs.declared.pages.HugePages.{HugePages}
use Rattle.numa_huge.specs.declared.spot.HugeSpot.{HugeSpot}
use Rattle.numa_page_state.specs.Huge.{mapping_nodes}
use Rattle.numa_page_state.specs.Outcomes.{Enough, Lack, Starved, is_starved}
use Rattle.numa_page_state.specs.Pooling.{mapped_first, mapped_pages}
use Rattle.numa_page_state.specs.Strict.{is_late}
use Rattle.numa_script.specs.Replies.{reply_to}
use Rattle.numa_requests.specs.declared.page_refusal.HugeRefusal.TheVariants as because
use Rattle.numa_script.specs.declared.reply.Reply.{Reply}
use Rattle.numa_script.specs.declared.reply.Reply.TheVariants as reply
use Rattle.numa_run.specs.Answering.{Served, with_reply}
use Rattle.numa_run.specs.HugeLines.{fitting_outcome, huge_so, lacking_outcome, lacks_huge}
use Rattle.numa_run.specs.HugeLines.{map_outcome, memory_on, pools_on, refused_for, with_pages}
use Rattle.numa_run.specs.HugeLines.{with_pools}
use Rattle.numa_run.specs.Obeying.{accepted_outcome, command_reply, unless_pages}
use Rattle.numa_run.specs.Standing.{RunsAs, Serves}
use Rattle.numa_run.specs.States.{State}
use Rattle.numa_run.specs.declared.running.Running.{Running}
use Rattle.numa_run.proofs.Accepting.{Accepts, served, serves-by}
use Rattle.numa_run.proofs.Also.{so-goes, so-stays}
use Rattle.numa_run.proofs.Binds.{late-where, refused-alike}
use Rattle.numa_run.proofs.Keeping.{kept-memory, pools-so}

-- ---- what is lacked

abbrev pub lack_by : Bool → Lack
lack_by true = Starved
lack_by false = Enough

pub lack-by : (starved : Bool) → is_starved (lack_by starved) ≡ starved
lack-by true = refl
lack-by false = refl

pub few-lacks : (spots : ℕ → Option HugeSpot) → too_many spots ≡ false → lack_for false spots ≡ None
few-lacks spots few = rw few refl

-- ---- the span fits

module _ (old : Running) (kept : HugePages) (is : old.huge ≡ Some kept) (first pages : ℕ)
    (reserves : Bool) (command : Command) where
  abbrev pub fitted : Lack → Hardware → State → Served
  fitted lack machine state = fitting_outcome lack machine first pages reserves state command

  abbrev lying_then : State → HugeLying
  lying_then state =
      mapping first pages reserves (memory_on old.core.space.machine state).pages

  fits-same : (state : State) → RunsAs old state
      → fits (memory_on old.core.space.machine state).pages.spots first pages
      ≡ fits (places_of kept.places).spots first pages
  fits-same state stands = ap (λ (p : HugeLying). fits p.spots first pages)
      (sym (kept-memory old kept is state stands).pages)

  -- it doesn't
  pub map-plain : (new : Running) (answer : Reply)
      → fits (places_of kept.places).spots first pages ≡ false
      → Serves old answer new (λ lack machine state.
      accepted_outcome lack machine state command)
      → Serves old answer new fitted
  map-plain new answer none = serves-by old new answer
      (λ lack machine state. accepted_outcome lack machine state command) fitted
      (λ state stands lack. ap (λ (b : Bool). if b then unless_pages (lack_for (is_starved lack)
      (with_span first pages (Some (fresh_spot reserves))
      (memory_on old.core.space.machine state).pages.spots)) state
      (huge_so lack old.core.space.machine state command (lying_then state))
      else accepted_outcome lack old.core.space.machine state command)
      (fits-same state stands ∙ none))

  module _ (fit : fits (places_of kept.places).spots first pages ≡ true) where
    fitted-is : (lack : Lack) (state : State) → RunsAs old state
        → fitted lack old.core.space.machine state
        ≡ unless_pages (lack_for (is_starved lack) (lying_then state).spots) state
        (huge_so lack old.core.space.machine state command (lying_then state))
    fitted-is lack state stands = ap (λ (b : Bool). if b
        then unless_pages (lack_for (is_starved lack) (lying_then state).spots) state
        (huge_so lack old.core.space.machine state command (lying_then state))
        else accepted_outcome lack old.core.space.machine state command)
        (fits-same state stands ∙ fit)

    -- runs or memory lack
    pub map-lacks : (why : PlacedRefusal)
        → IsLackFor (mapping first pages reserves (places_of kept.places)).spots why
        → Serves old (command_reply why) old fitted
    map-lacks why lacks = λ state stands.
        let lack : Lack = lack_by lacks.0 in
        let here : lack_for (is_starved lack) (lying_then state).spots ≡ Some why =
        (λ i. lack_for (lack-by lacks.0 i) (mapping first pages reserves
        (sym (kept-memory old kept is state stands).pages i)).spots) ∙ lacks.1 in
        served old old (command_reply why) fitted state state lack
        (fitted-is lack state stands
        ∙ ap (λ (o : Option PlacedRefusal). unless_pages o state
        (huge_so lack old.core.space.machine state command (lying_then state))) here) stands

    module _ (after : HugePlaced)
        (maps : places_of after ≡ mapping first pages reserves (places_of kept.places))
        (few : too_many (places_of after).spots ≡ false) (core : CoreState)
        (same : setup_of core ≡ setup_of old.core) where
      abbrev more : State → Served → Served
      more state done = record done {
        state = with_pages (lying_then state) old.core.space.machine done.state;
      }

      then-same : (state : State) → RunsAs old state → places_of after ≡ lying_then state
      then-same state stands = maps ∙ ap (mapping first pages reserves)
          (kept-memory old kept is state stands).pages

      enough : (state : State) → RunsAs old state
          → fitted Enough old.core.space.machine state
          ≡ huge_so Enough old.core.space.machine state command (lying_then state)
      enough state stands =
          let none : lack_for false (lying_then state).spots ≡ None =
          few-lacks (lying_then state).spots
          (ap (λ (p : HugeLying). too_many p.spots) (sym (then-same state stands)) ∙ few) in
          fitted-is Enough state stands
          ∙ ap (λ (o : Option PlacedRefusal). unless_pages o state
          (huge_so Enough old.core.space.machine state command (lying_then state))) none

      starved : (state : State) → RunsAs old state
          → fitted Starved old.core.space.machine state
          ≡ with_reply (command_reply cause.NoMemory) state
      starved state stands = fitted-is Starved state stands

      -- the core refused it
      pub map-stays : (result : Result Acceptance Refusal) → is_err result ≡ true
          → Accepts old.core command (version_of result) core
          → Serves old (reply_to (accept_answer (version_of result))) (record old { core = core })
          fitted
      map-stays result fails accepts = λ state stands.
          so-stays old command core same state stands fitted (more state) (enough state stands)
          (starved state stands) result fails accepts

      pub map-goes : (result : Result Acceptance Refusal) → is_err result ≡ false
          → Accepts old.core command (version_of result) core → (kept_then : HugePages)
          → ((memory : HugeMemory) → IsMemory kept memory
          → IsMemory kept_then (record memory { pages = places_of after }))
          → Serves old (reply_to (accept_answer (version_of result)))
          (record old { core = core; huge = Some kept_then }) fitted
      map-goes result goes accepts kept_then settles = λ state stands.
          let memory = memory_on old.core.space.machine state in
          let so = settles memory (kept-memory old kept is state stands) in
          so-goes old command core same state stands fitted (more state) (enough state stands)
          (starved state stands) old.pages state.lying (Some kept_then)
          (Some (record memory { pages = lying_then state })) stands.lies
          (subst (λ (p : HugeLying). IsMemory kept_then (record memory { pages = p }))
          (then-same state stands) so) (λ answer world. refl) result goes accepts

-- ---- too few pages

module _ (old : Running) (pages : ℕ) (command : Command) where
  abbrev pub lacked : Lack → Hardware → State → Served
  lacked lack machine state = lacking_outcome lack machine pages state command

  -- memory lacks for the trial
  pub lacked-starved : Serves old (command_reply cause.NoMemory) old lacked
  lacked-starved = λ state stands.
      served old old (command_reply cause.NoMemory) lacked state state Starved refl stands

  module _ (late : Bool)
      (tried : (history : List Command) → StandsFor old.core.space history
      → late ≡ is_late old.core.space.machine.rules (refusal_of old.core.space.machine
      old.core.space.bounds history command)) where
    is-late : (state : State) → RunsAs old state
        → is_late old.core.space.machine.rules (refusal_of old.core.space.machine state.bounds
        state.world.history command) ≡ late
    is-late state stands =
        (λ i. is_late old.core.space.machine.rules (refusal_of old.core.space.machine
        (stands.core.bounds i) state.world.history command))
        ∙ sym (tried state.world.history stands.core.world.space)

    abbrev none_on : State → Served
    none_on state = refused_for because.NoHugePages
        (with_pools (refusing (pools_on old.core.space.machine state) pages)
        old.core.space.machine state)

    lacked-is : (state : State) → RunsAs old state
        → lacked Enough old.core.space.machine state
        ≡ (if late then none_on state
        else accepted_outcome Enough old.core.space.machine state command)
    lacked-is state stands = ap (λ (b : Bool). if b then none_on state
        else accepted_outcome Enough old.core.space.machine state command) (is-late state stands)

    -- nothing stands against it but that
    pub lacked-late : (kept : HugePages) → old.huge ≡ Some kept → late ≡ true
        → (kept_then : HugePages) → kept_then ≡ record kept { places = kept_then.places }
        → kept_then.places.pools ≡ refusing kept.places.pools pages
        → kept_then.places.runs ≡ kept.places.runs
        → Serves old (reply.HugeRefused because.NoHugePages)
        (record old { huge = Some kept_then }) lacked
    lacked-late kept is yes_late kept_then rest pools runs = λ state stands.
        served old (record old { huge = Some kept_then })
        (reply.HugeRefused because.NoHugePages) lacked state
        (with_pools (refusing (pools_on old.core.space.machine state) pages)
        old.core.space.machine state) Enough
        (lacked-is state stands ∙ ap (λ (b : Bool). if b then none_on state
        else accepted_outcome Enough old.core.space.machine state command) yes_late)
        (pools-so old kept is state stands kept_then (λ (allowed : ℕ) (pools : PoolCounts).
        refusing pools pages) old.core.space.allowed refl rest pools runs)

    pub lacked-early : (new : Running) (answer : Reply) → late ≡ false
        → Serves old answer new (λ lack machine state.
        accepted_outcome lack machine state command)
        → Serves old answer new lacked
    lacked-early new answer early serves = λ state stands.
        let s = serves state stands in
        let some = late-where old.core.space.machine.rules (refusal_of old.core.space.machine
        state.bounds state.world.history command) (is-late state stands ∙ early) in
        let same : lacked Enough old.core.space.machine state
        ≡ accepted_outcome s.0 old.core.space.machine state command = lacked-is state stands
        ∙ ap (λ (b : Bool). if b then none_on state
        else accepted_outcome Enough old.core.space.machine state command) early
        ∙ sym (refused-alike old.core.space.machine state command s.0 some) in (
          Enough,
          ap (λ (r : Served). r.answer) same ∙ s.1,
          subst (λ (r : Served). RunsAs new r.state) (sym same) s.2,
        )

-- ---- either

module _ (old : Running) (kept : HugePages) (is : old.huge ≡ Some kept)
    (start bytes offset task : ℕ) (reserves : Bool) (policy : Option PolicyRecord) (nodes : ℕ)
    (record_is : (history : List Command) → StandsFor old.core.space history
    → policy ≡ task_record old.core.space.machine history task)
    (nodes_are : nodes ≡ mapping_nodes policy old.core.space.allowed) where
  abbrev pub maps : Lack → Hardware → State → Served
  maps lack machine state = map_outcome lack machine start bytes offset task reserves state

  abbrev here : Bool
  here = reserves && lacks_pages kept.places.pools (mapped_pages bytes) nodes

  lacks-same : (state : State) → RunsAs old state
      → lacks_huge old.core.space.machine bytes task reserves state ≡ here
  lacks-same state stands =
      let m = kept-memory old kept is state stands in
      let given : nodes ≡ mapping_nodes (task_record old.core.space.machine state.world.history
      task) (allowed_nodes old.core.space.machine state.world.history) = nodes_are
      ∙ (λ i. mapping_nodes (record_is state.world.history stands.core.world.space i)
      (stands.core.world.space.allowed i)) in
      λ i. reserves && lacks_pages (sym m.pages i).pools (mapped_pages bytes) (sym given i)

  abbrev command : Command
  command = Map start bytes offset Huge

  maps-is : (lack : Lack) (state : State) → RunsAs old state
      → maps lack old.core.space.machine state
      ≡ (if here then lacking_outcome lack old.core.space.machine (mapped_pages bytes) state command
      else fitting_outcome lack old.core.space.machine (mapped_first start) (mapped_pages bytes)
      reserves state command)
  maps-is lack state stands = ap (λ (b : Bool). if b
      then lacking_outcome lack old.core.space.machine (mapped_pages bytes) state command
      else fitting_outcome lack old.core.space.machine (mapped_first start) (mapped_pages bytes)
      reserves state command) (lacks-same state stands)

  pub maps-lacking : (new : Running) (answer : Reply)
      → reserves && lacks_pages kept.places.pools (mapped_pages bytes) nodes ≡ true
      → Serves old answer new (λ lack machine state.
      lacking_outcome lack machine (mapped_pages bytes) state (Map start bytes offset Huge))
      → Serves old answer new maps
  maps-lacking new answer lacks = serves-by old new answer
      (λ lack machine state. lacking_outcome lack machine (mapped_pages bytes) state command) maps
      (λ state stands lack. maps-is lack state stands ∙ ap (λ (b : Bool). if b
      then lacking_outcome lack old.core.space.machine (mapped_pages bytes) state command
      else fitting_outcome lack old.core.space.machine (mapped_first start) (mapped_pages bytes)
      reserves state command) lacks)

  pub maps-fitting : (new : Running) (answer : Reply)
      → reserves && lacks_pages kept.places.pools (mapped_pages bytes) nodes ≡ false
      → Serves old answer new (λ lack machine state. fitting_outcome lack machine
      (mapped_first start) (mapped_pages bytes) reserves state (Map start bytes offset Huge))
      → Serves old answer new maps
  maps-fitting new answer enough = serves-by old new answer
      (λ lack machine state. fitting_outcome lack machine (mapped_first start)
      (mapped_pages bytes) reserves state command) maps
      (λ state stands lack. maps-is lack state stands ∙ ap (λ (b : Bool). if b
      then lacking_outcome lack old.core.space.machine (mapped_pages bytes) state command
      else fitting_outcome lack old.core.space.machine (mapped_first start) (mapped_pages bytes)
      reserves state command) enough)
