-- What a mapping of pages of 2 MiB makes of a host that answers it.
use Rattle.std.proofs.Common.{◌≡◌, ◌⊎◌, ℕ, Bool, true, false, Option, Some, None, Ok, Err}
use Rattle.std.proofs.Common.{List, ◌∷◌, length, refl, sym, ap, subst, ◌∙◌, inl, inr}
use Rattle.std.specs.Prelude.{◌&&◌, MatchOption, if◌then◌else◌}
use Rattle.numa_machine.specs.declared.page_size.PageSize.TheVariants.{Huge}
use Rattle.numa_mode.specs.Policy.{PolicyRecord}
use Rattle.numa_space.specs.Policies.{task_record}
use Rattle.numa_space.specs.Refusals.{refusal_of}
use Rattle.numa_space.specs.Standing.{SpaceState, StandsFor}
use Rattle.numa_pools.specs.Pools.{lacks_pages, refusing}
use Rattle.numa_requests.specs.declared.command.Command.{Command}
use Rattle.numa_requests.specs.declared.command.Command.TheVariants.{Map}
use Rattle.numa_requests.specs.declared.host_command.HostCommand.{HostCommand}
use Rattle.numa_requests.specs.declared.host_command.HostCommand.TheVariants.{In}
use Rattle.numa_requests.specs.declared.host_refusal.HostRefusal.{HostRefusal}
use Rattle.numa_requests.specs.declared.host_refusal.HostRefusal.TheVariants.{NoMemory}
use Rattle.numa_requests.specs.declared.page_refusal.HugeRefusal.TheVariants as because
use Rattle.numa_requests.specs.declared.page_refusal.PlacedRefusal.{PlacedRefusal}
use Rattle.numa_requests.specs.declared.page_refusal.PlacedRefusal.TheVariants as cause
use Rattle.numa_host.specs.Causes.{first_of, host_refusal_of, when}
use Rattle.numa_host.specs.Processes.{commands_of}
use Rattle.numa_host.specs.Standing.{HostState, HostStandsFor, IsHostApplied}
use Rattle.numa_huge.specs.Huge.{HugeLying, HugePlaced, fits, fresh_spot, lack_for, mapping}
use Rattle.numa_huge.specs.Huge.{places_of, too_many, with_span}
use Rattle.numa_huge.specs.Moves.{HugeMemory}
use Rattle.numa_huge.specs.Tallies.{IsLackFor}
use Rattle.numa_huge.specs.declared.spot.HugeSpot.{HugeSpot}
use Rattle.numa_host_huge.specs.Kept.{HugeKept, lying_of, spots_in}
use Rattle.numa_host_huge.specs.Sharing.{Sharing, begun_in, with_pools}
use Rattle.numa_host_huge.specs.Standing.{Becomes, HugeLies, IsSame}
use Rattle.numa_host_pages.specs.Homes.{HostLying, with_huge}
use Rattle.numa_page_state.specs.Huge.{mapping_nodes}
use Rattle.numa_page_state.specs.Outcomes.{Enough, Lack, Starved, is_starved}
use Rattle.numa_page_state.specs.Pooling.{mapped_first, mapped_pages}
use Rattle.numa_page_state.specs.Strict.{is_late}
use Rattle.numa_script.specs.declared.reply.Reply.{Reply}
use Rattle.numa_script.specs.declared.reply.Reply.TheVariants as reply
use Rattle.numa_run.specs.Replies.{Replied}
use Rattle.numa_run.proofs.Binds.{late-where}
use Rattle.numa_run.proofs.Fitting.{few-lacks, lack-by, lack_by}
use Rattle.numa_host_script.specs.Hosts.{Hosting, HostLack, Outcome, cause_by, command_unless}
use Rattle.numa_host_script.specs.Hosts.{host_needs_room, process_outcome, with_lying, with_reply}
use Rattle.numa_host_script.specs.Paging.{own_cause, pages_reply, takes_more, unless_pages}
use Rattle.numa_host_script.specs.Pooling.{fitting_outcome, lacking_outcome}
use Rattle.numa_host_script.specs.Pooling.{map_outcome, map_there, pools_at}
use Rattle.numa_host_script.specs.Standing.{MapsMade, Replies, RepliesThere, RunsAs}
use Rattle.numa_host_script.specs.declared.running.RunningHost.{RunningHost}
use Rattle.numa_host_script.proofs.Bindings.{alike}
use Rattle.numa_host_script.proofs.Obeyed.{cause-here, first-told, host-room_needed}
use Rattle.numa_host_script.proofs.Resizes.{IsSpaceAt, own-allowed, own-at, own-record}
use Rattle.numa_host_script.proofs.Shared.{begun-lying, begun-spots, shared-runs, with_shared}
use Rattle.numa_host_script.proofs.Unmapped.{cause-alike, cause-some, flag}

-- ---- too few pages

module _ (old : RunningHost) (process pages : ℕ) (command : Command) where
  abbrev pub lacks : HostLack → Hosting → Outcome
  lacks lack at = lacking_outcome lack.lacked at process pages command

  -- memory lacks for the trial
  pub lacks-starved : RepliesThere old (pages_reply cause.NoMemory) old process lacks
  lacks-starved = λ at stands more.
      alike (pages_reply cause.NoMemory) old at lacks (flag Starved)
      (with_reply (pages_reply cause.NoMemory) at) refl refl stands

  module _ (space : SpaceState) (owns : IsSpaceAt old process space) (late : Bool)
      (tried : (history : List Command) → StandsFor space history
      → late ≡ is_late space.machine.rules (refusal_of space.machine space.bounds history
      command)) where
    late-here : (at : Hosting) → RunsAs old at
        → is_late at.machine.rules (own_cause at process command) ≡ late
    late-here at stands =
        let own = own-at old process space owns at stands in
        sym (tried (commands_of at.machine at.history process) own.stands
        ∙ (λ i. is_late (own.machine i).rules (refusal_of (own.machine i) (own.bounds i)
        (commands_of at.machine at.history process) command)))

    abbrev none_left : Hosting → Outcome
    none_left at = with_lying (Replied (reply.HugeRefused because.NoHugePages))
        (record at.lying { huge = with_pools (refusing (pools_at at) pages) at.lying.huge }) at

    abbrev by_late : Bool → Hosting → Outcome
    by_late b at = if b then none_left at else process_outcome Enough at process command

    lacks-is : (at : Hosting) → RunsAs old at → lacks (flag Enough) at ≡ by_late late at
    lacks-is at stands = ap (λ (b : Bool). by_late b at) (late-here at stands)

    -- nothing stands against it but that
    pub lacks-late : late ≡ true → (kept : HugeKept)
        → ((at : Sharing) → HugeLies old.pages.huge at
        → HugeLies kept (with_pools (refusing at.pools pages) at))
        → RepliesThere old (reply.HugeRefused because.NoHugePages) (with_shared old kept) process
        lacks
    lacks-late yes_late kept refuses = λ at stands more.
        alike (reply.HugeRefused because.NoHugePages) (with_shared old kept) at lacks
        (flag Enough) (none_left at)
        (lacks-is at stands ∙ ap (λ (b : Bool). by_late b at) yes_late) refl
        (shared-runs old at kept (with_pools (refusing (pools_at at) pages) at.lying.huge) stands
        (refuses at.lying.huge stands.lies.huge))

    pub lacks-early : (new : RunningHost) (answer : Reply) → late ≡ false
        → Replies old answer new (λ lack at. process_outcome lack.lacked at process command)
        → RepliesThere old answer new process lacks
    lacks-early new answer early serves = λ at stands more.
        let s = serves at stands in
        let some = cause-some at.machine at.bounds at.history process command
        (late-where at.machine.rules (own_cause at process command)
        (late-here at stands ∙ early)) in
        alike answer new at lacks (flag Enough) (process_outcome s.0.lacked at process command)
        (lacks-is at stands ∙ ap (λ (b : Bool). by_late b at) early
        ∙ sym (cause-alike s.0.lacked at process command some)) s.1 s.2

-- ---- pages that were prepared

module _ (old : RunningHost) (process : ℕ) (command : Command) (pages : HugeLying)
    (host : HostState) where
  abbrev there : Hosting → HostLying
  there at =
      with_huge process (record (begun_in process at.lying.huge) { pages = pages }) at.lying

  abbrev said : HostCommand
  said = In process command

  abbrev pub makes : HostLack → Hosting → Outcome
  makes lack at = command_unless (cause_by lack.lacked at said) (there at) at said

  -- the host accepted the command
  pub made-goes : (kept : HugeKept) (version : ℕ) → IsHostApplied old.host said (Ok tt) host
      → ((history : List HostCommand) → HostStandsFor host history → version ≡ length history)
      → Becomes process old.pages.huge kept (λ memory. record memory { pages = pages })
      → MapsMade old (reply.Accepted version)
      (record { host = host; pages = record old.pages { huge = kept } }) process command pages
  made-goes kept version applied counts becomes = λ at stands.
      let new : RunningHost = record { host = host; pages = record old.pages { huge = kept } } in
      let ok = applied.ok at.history stands.stands in
      let none : host_refusal_of at.machine at.bounds at.history said ≡ None =
      sym (cause-here old at said stands) ∙ ok.0 in
      alike (reply.Accepted version) new at makes (flag Enough)
      (command_unless None (there at) at said)
      (ap (λ (c : Option HostRefusal). command_unless (first_of c None) (there at) at said) none)
      (ap (λ (n : ℕ). Some (reply.Accepted n)) (counts (said ∷ at.history) ok.1)) (record {
        machine = applied.machine ∙ stands.machine;
        bounds = applied.bounds ∙ stands.bounds;
        stands = ok.1;
        lies = record {
          room = stands.lies.room;
          follows = stands.lies.follows;
          homes = stands.lies.homes;
          huge = becomes at.lying.huge stands.lies.huge;
          places = stands.lies.places;
        };
        are = record { order = stands.are.order; same = stands.are.same };
      })

  -- it refused it
  pub made-stays : (why : HostRefusal) → IsHostApplied old.host said (Err why) host
      → MapsMade old (reply.HostRefused why) (record { host = host; pages = old.pages }) process
      command pages
  made-stays why applied = λ at stands.
      let new : RunningHost = record { host = host; pages = old.pages } in
      let first = subst
      (λ (c : Option HostRefusal). MatchOption c (why ≡ NoMemory) (λ f. why ≡ f))
      (cause-here old at said stands) (applied.err at.history stands.stands) in
      alike (reply.HostRefused why) new at makes (flag Starved)
      (with_reply (reply.HostRefused why) at)
      (ap (λ (c : Option HostRefusal). command_unless c (there at) at said)
      (first-told (host_needs_room said)
      (host_refusal_of at.machine at.bounds at.history said) why first
      (λ is. host-room_needed said (applied.room is)))) refl (record {
        machine = applied.machine ∙ stands.machine;
        bounds = applied.bounds ∙ stands.bounds;
        stands = subst (λ (h : HostState). HostStandsFor h at.history) (sym applied.unchanged)
            stands.stands;
        lies = stands.lies;
        are = stands.are;
      })

-- ---- the span fits

module _ (old : RunningHost) (process first pages : ℕ) (reserves : Bool) (command : Command)
  where
    abbrev pub fitted : HostLack → Hosting → Outcome
    fitted lack at = fitting_outcome lack.lacked at process first pages reserves command

    abbrev memory : Hosting → HugeMemory
    memory at = begun_in process at.lying.huge

    abbrev spots_then : Hosting → ℕ → Option HugeSpot
    spots_then at = with_span first pages (Some (fresh_spot reserves)) (memory at).pages.spots

    abbrev lying_then : Hosting → HostLying
    lying_then at = with_huge process
        (record (memory at) { pages = mapping first pages reserves (memory at).pages }) at.lying

    abbrev made_by : Lack → Hosting → Outcome
    made_by lacked at = command_unless (cause_by lacked at (In process command)) (lying_then at) at
        (In process command)

    abbrev by_fits : Bool → Lack → Hosting → Outcome
    by_fits b lacked at = if b
        then unless_pages (lack_for (is_starved lacked) (spots_then at)) at (made_by lacked at)
        else process_outcome lacked at process command

    module _ (found : Bool)
        (is : (at : Sharing) → HugeLies old.pages.huge at
        → found ≡ fits (begun_in process at).pages.spots first pages) where
      fitted-is : (so : Bool) → found ≡ so → (lacked : Lack) (at : Hosting) → RunsAs old at
          → fitted (flag lacked) at ≡ by_fits so lacked at
      fitted-is so same lacked at stands = ap (λ (b : Bool). by_fits b lacked at)
          (sym (is at.lying.huge stands.lies.huge) ∙ same)

      -- it doesn't
      pub fits-plain : (new : RunningHost) (answer : Reply) → found ≡ false
          → Replies old answer new (λ lack at. process_outcome lack.lacked at process command)
          → RepliesThere old answer new process fitted
      fits-plain new answer none serves = λ at stands more.
          let s = serves at stands in
          alike answer new at fitted (flag s.0.lacked)
          (process_outcome s.0.lacked at process command)
          (fitted-is false none s.0.lacked at stands) s.1 s.2

      module _ (fit : found ≡ true) (kept : HugeKept) (same : IsSame old.pages.huge kept) where
        runs-same : (at : Hosting) → RunsAs old at → RunsAs (with_shared old kept) at
        runs-same at stands =
            shared-runs old at kept at.lying.huge stands (same at.lying.huge stands.lies.huge)

        -- runs or memory lack
        pub fits-lacks : (why : PlacedRefusal)
            → IsLackFor (with_span first pages (Some (fresh_spot reserves))
            (spots_in process old.pages.huge.sharers)) why
            → RepliesThere old (pages_reply why) (with_shared old kept) process fitted
        fits-lacks why lacking = λ at stands more.
            let lack : Lack = lack_by lacking.0 in
            let spots = begun-spots old.pages.huge process at.lying.huge stands.lies.huge in
            let here : lack_for (is_starved lack) (spots_then at) ≡ Some why =
            (λ i. lack_for (lack-by lacking.0 i) (with_span first pages
            (Some (fresh_spot reserves)) (sym spots i))) ∙ lacking.1 in
            alike (pages_reply why) (with_shared old kept) at fitted (flag lack)
            (with_reply (pages_reply why) at)
            (fitted-is true fit lack at stands
            ∙ ap (λ (o : Option PlacedRefusal). unless_pages o at (made_by lack at)) here) refl
            (runs-same at stands)

        module _ (after : HugePlaced)
            (maps : places_of after ≡ mapping first pages reserves
            (lying_of process old.pages.huge))
            (few : too_many (places_of after).spots ≡ false) where
          pages-same : (at : Hosting) → RunsAs old at
              → places_of after ≡ mapping first pages reserves (memory at).pages
          pages-same at stands = maps ∙ ap (mapping first pages reserves)
              (begun-lying old.pages.huge process at.lying.huge stands.lies.huge)

          enough : (at : Hosting) → RunsAs old at
              → fitted (flag Enough) at ≡ made_by Enough at
          enough at stands =
              fitted-is true fit Enough at stands
              ∙ ap (λ (o : Option PlacedRefusal). unless_pages o at (made_by Enough at))
              (few-lacks (spots_then at)
              (ap (λ (p : HugeLying). too_many p.spots) (sym (pages-same at stands)) ∙ few))

          starved : (at : Hosting) → RunsAs old at
              → fitted (flag Starved) at ≡ with_reply (pages_reply cause.NoMemory) at
          starved at stands = fitted-is true fit Starved at stands

          -- lack of memory shows where nothing else refuses the command
          either : (at : Hosting) (why : Option HostRefusal) (lacked needs : Bool)
              → (command_unless (first_of why (when (lacked && needs) NoMemory)) (lying_then at) at
              (In process command) ≡ command_unless (first_of why None) (lying_then at) at
              (In process command))
              ⊎ (command_unless (first_of why (when (lacked && needs) NoMemory)) (lying_then at) at
              (In process command) ≡ with_reply (reply.HostRefused NoMemory) at)
          either at why false needs = inl refl
          either at (Some why) true needs = inl refl
          either at None true false = inl refl
          either at None true true = inr refl

          as-made : (at : Hosting) → RunsAs old at → (lacked : Lack)
              → (other : Lack) × (fitted (flag other) at ≡ made_by lacked at)
          as-made at stands lacked = elim (either at
              (host_refusal_of at.machine at.bounds at.history (In process command))
              (is_starved lacked) (host_needs_room (In process command))) [
                | inl same_so ↦ (Enough, enough at stands ∙ sym same_so)
                | inr lack ↦ (Starved, starved at stands ∙ sym lack)
              ]

          -- the host was asked to map it
          pub fits-made : (new : RunningHost) (answer : Reply)
              → MapsMade (with_shared old kept) answer new process command (places_of after)
              → RepliesThere old answer new process fitted
          fits-made new answer replies = λ at stands more.
              let s = replies at (runs-same at stands) in
              let other = as-made at stands s.0.lacked in
              let same_so : command_unless (cause_by s.0.lacked at (In process command))
              (with_huge process (record (memory at) { pages = places_of after }) at.lying) at
              (In process command) ≡ made_by s.0.lacked at =
              ap (λ (p : HugeLying). command_unless (cause_by s.0.lacked at (In process command))
              (with_huge process (record (memory at) { pages = p }) at.lying) at
              (In process command)) (pages-same at stands) in
              alike answer new at fitted (flag other.0)
              (command_unless (cause_by s.0.lacked at (In process command))
              (with_huge process (record (memory at) { pages = places_of after }) at.lying) at
              (In process command)) (other.1 ∙ sym same_so) s.1 s.2

-- ---- either

module _ (old : RunningHost) (process start bytes offset task : ℕ) (reserves : Bool) where
  abbrev pub maps_so : HostLack → Hosting → Outcome
  maps_so lack at = map_outcome lack.lacked at process start bytes offset task reserves

  abbrev command : Command
  command = Map start bytes offset Huge

  abbrev by_more : Bool → Lack → Hosting → Outcome
  by_more b lacked at = if b
      then map_there lacked at process start bytes offset task reserves
      else process_outcome lacked at process command

  module _ (more : Bool) (takes : (at : Hosting) → RunsAs old at → more ≡ takes_more at process)
    where
      -- nobody is there, or the host takes no more commands
      pub maps-spent : more ≡ false → (new : RunningHost) (answer : Reply)
          → Replies old answer new (λ lack at. process_outcome lack.lacked at process
          (Map start bytes offset Huge))
          → Replies old answer new maps_so
      maps-spent spent new answer serves = λ at stands.
          let s = serves at stands in
          alike answer new at maps_so s.0 (process_outcome s.0.lacked at process command)
          (ap (λ (b : Bool). by_more b s.0.lacked at) (sym (takes at stands) ∙ spent)) s.1 s.2

      module _ (free : more ≡ true) where
        maps-there : (new : RunningHost) (answer : Reply)
            (outcome : HostLack → Hosting → Outcome)
            → ((at : Hosting) → RunsAs old at → (lack : HostLack)
            → map_there lack.lacked at process start bytes offset task reserves
            ≡ outcome lack at)
            → RepliesThere old answer new process outcome → Replies old answer new maps_so
        maps-there new answer outcome is serves = λ at stands.
            let here = sym (takes at stands) ∙ free in
            let s = serves at stands here in
            alike answer new at maps_so s.0 (outcome s.0 at)
            (ap (λ (b : Bool). by_more b s.0.lacked at) here ∙ is at stands s.0) s.1 s.2

        pub maps-nobody : (new : RunningHost) (answer : Reply)
            → RepliesThere old answer new process (λ lack at. map_there lack.lacked at process
            start bytes offset task reserves)
            → Replies old answer new maps_so
        maps-nobody new answer serves = maps-there new answer
            (λ lack at. map_there lack.lacked at process start bytes offset task reserves)
            (λ at stands lack. refl) serves

        module _ (space : SpaceState) (owns : IsSpaceAt old process space)
            (policy : Option PolicyRecord) (nodes : ℕ)
            (record_is : (history : List Command) → StandsFor space history
            → policy ≡ task_record space.machine history task)
            (nodes_are : nodes ≡ mapping_nodes policy space.allowed) where
          abbrev few_here : Bool
          few_here = reserves && lacks_pages old.pages.huge.pools (mapped_pages bytes) nodes

          abbrev by_few : Bool → Lack → Hosting → Outcome
          by_few b lacked at = if b then lacking_outcome lacked at process (mapped_pages bytes)
              command
              else fitting_outcome lacked at process (mapped_first start) (mapped_pages bytes)
              reserves command

          there-is : (so : Bool) → few_here ≡ so → (at : Hosting) → RunsAs old at
              → (lack : HostLack)
              → map_there lack.lacked at process start bytes offset task reserves
              ≡ by_few so lack.lacked at
          there-is so same at stands lack = ap (λ (b : Bool). by_few b lack.lacked at)
              ((λ i. reserves && lacks_pages (sym stands.lies.huge.pools i) (mapped_pages bytes)
              (sym (nodes_are ∙ (λ j. mapping_nodes
              (own-record old process space owns task policy record_is at stands j)
              (own-allowed old process space owns at stands j))) i)) ∙ same)

          pub maps-lacking : (new : RunningHost) (answer : Reply)
              → reserves && lacks_pages old.pages.huge.pools (mapped_pages bytes) nodes ≡ true
              → RepliesThere old answer new process (λ lack at. lacking_outcome lack.lacked at
              process (mapped_pages bytes) (Map start bytes offset Huge))
              → Replies old answer new maps_so
          maps-lacking new answer few serves = maps-there new answer
              (λ lack at. by_few true lack.lacked at) (there-is true few) serves

          pub maps-fitting : (new : RunningHost) (answer : Reply)
              → reserves && lacks_pages old.pages.huge.pools (mapped_pages bytes) nodes ≡ false
              → RepliesThere old answer new process (λ lack at. fitting_outcome lack.lacked at
              process (mapped_first start) (mapped_pages bytes) reserves
              (Map start bytes offset Huge))
              → Replies old answer new maps_so
          maps-fitting new answer enough serves = maps-there new answer
              (λ lack at. by_few false lack.lacked at) (there-is false enough) serves
