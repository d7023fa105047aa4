-- What `fault`, and any line about pages of 2 MiB, makes of a running machine.
use Rattle.std.proofs.Common.{◌≡◌, ℕ, Bool, true, false, Option, Some, None, Result, Err}
use Rattle.std.proofs.Common.{List, refl, sym, ap, subst, ◌∙◌, inl, inr}
use Rattle.std.proofs.lemmas.Bool.{and_parts, cases_Bool}
use Rattle.std.specs.Prelude.{◌&&◌, if◌then◌else◌, is_some, not}
use Rattle.numa_core.specs.Standing.{CoreState, setup_of}
use Rattle.numa_machine.specs.Machine.{Hardware}
use Rattle.numa_machine.specs.declared.refusal.PlaceRefusal.{PlaceRefusal}
use Rattle.numa_requests.specs.declared.command.Command.{Command}
use Rattle.numa_requests.specs.declared.page_refusal.PlacedRefusal.{PlacedRefusal}
use Rattle.numa_requests.specs.declared.page_refusal.PlacedRefusal.TheVariants as cause
use Rattle.numa_space.specs.History.{page_of}
use Rattle.numa_space.specs.Lists.{node_list}
use Rattle.numa_space.specs.Standing.{StandsFor, place_refusal_of}
use Rattle.numa_huge.specs.Huge.{HugeLying, places_of}
use Rattle.numa_huge.specs.Moves.{HugeMemory}
use Rattle.numa_huge.specs.Tallies.{StandsForHuge}
use Rattle.numa_huge.specs.declared.pages.HugePages.{HugePages}
use Rattle.numa_page_state.specs.Huge.{HugeFaults, fault_outcome, huge_at_address, huge_fault}
use Rattle.numa_page_state.specs.Huge.{huge_page}
use Rattle.numa_page_state.specs.Lying.{Ground, Lying, ground_in, ground_of}
use Rattle.numa_page_state.specs.Outcomes.{Enough, Lack, Starved, is_starved}
use Rattle.numa_page_state.specs.Pooling.{place_cause}
use Rattle.numa_page_state.specs.Standing.{DoesAs, Lies, LiesAs}
use Rattle.numa_page_state.specs.declared.state.PageState.{PageState}
use Rattle.numa_script.specs.declared.huge_line.HugeLine.{HugeLine}
use Rattle.numa_requests.specs.declared.page_refusal.HugeRefusal.TheVariants as because
use Rattle.numa_script.specs.declared.line.Line.TheVariants as line
use Rattle.numa_script.specs.declared.reply.Reply.{Reply}
use Rattle.numa_script.specs.declared.reply.Reply.TheVariants as reply
use Rattle.numa_run.specs.Answering.{Replied, Served, Shown, with_reply}
use Rattle.numa_run.specs.HugeLines.{begins, begun_on, begun_outcome, fault_reply, fault_unless}
use Rattle.numa_run.specs.HugeLines.{huge_faulted, huge_outcome, memory_on, pools_on, refused_for}
use Rattle.numa_run.specs.HugeLines.{small_fault_outcome, small_faulted, with_pages}
use Rattle.numa_run.specs.PageLines.{arrived_text}
use Rattle.numa_run.specs.PoolTexts.{pools_line}
use Rattle.numa_run.specs.Standing.{ComesTo, RunsAs, Serves, Takes}
use Rattle.numa_run.specs.States.{State, process_on}
use Rattle.numa_run.specs.declared.running.Running.{Running}
use Rattle.numa_run.specs.declared.running.Taken.{Taken}
use Rattle.numa_run.specs.declared.running.Taken.TheVariants as taken
use Rattle.numa_run.proofs.Accepting.{served, serves-by}
use Rattle.numa_run.proofs.HugeMoved.{both-so}
use Rattle.numa_run.proofs.Keeping.{kept-memory, places-so}
use Rattle.numa_run.proofs.PageChanges.{comes-taken, nothing-begun}
use Rattle.numa_run.proofs.Processes.{ground-same}

-- ---- a page of 4 KiB

module _ (old : Running) (task address cpu : ℕ) where
  abbrev pub faults_small : Lack → Hardware → State → Served
  faults_small lack machine state = small_fault_outcome lack machine task address cpu state

  -- there is no memory to begin
  pub small-starved : (pages : Option PageState) → (pages ≡ old.pages) × (old.pages ≡ None)
      → Serves old (reply.HugeRefused because.NoMemory) (record old { pages = pages })
      faults_small
  small-starved pages same = λ state stands.
      let early = nothing-begun old.pages state.lying same.1 stands.lies in
      served old (record old { pages = pages }) (reply.HugeRefused because.NoMemory) faults_small
      state state Starved
      (ap (λ (b : Bool). if not b && true then refused_for because.NoMemory state
      else small_faulted (fault_outcome Starved (ground_of (process_on old.core.space.machine
      state)) task address cpu (record state.lying { begun = true })) state) early)
      (both-so old pages state.lying old.huge state.huge state stands
      (subst (λ (p : Option PageState). Lies p state.lying) (sym same.0) stands.lies)
      stands.huge)

  module _ (pages new : PageState) (result : Result (Option ℕ) PlacedRefusal)
      (begins_so : (lying : Lying) → Lies old.pages lying → LiesAs pages lying)
      (does : DoesAs pages result new (Err cause.NoMemory) (λ lack at.
      fault_outcome lack (ground_in old.core.space old.resident) task address cpu at)) where
    module _ (state : State) (stands : RunsAs old state) where
      abbrev begun : Lying
      begun = record state.lying { begun = true }

      abbrev by_ground : Lack → Ground → Bool → Served
      by_ground lack basis lacks = if lacks then refused_for because.NoMemory state
          else small_faulted (fault_outcome lack basis task address cpu begun) state

      small-is : (lack : Lack) → faults_small lack old.core.space.machine state
          ≡ by_ground lack (ground_in old.core.space old.resident)
          (not state.lying.begun && is_starved lack)
      small-is lack = ap (λ (basis : Ground). by_ground lack basis
          (not state.lying.begun && is_starved lack)) (ground-same old state stands)

      begun-as : LiesAs pages begun
      begun-as =
          let before = begins_so state.lying stands.lies in
          record {
            spots = before.spots;
            room = before.room;
            follows = before.follows;
            last = before.last;
            arrived = before.arrived;
          }

    pub small-done : Serves old (fault_reply because.Exhausted result)
        (record old { pages = Some new }) faults_small
    small-done = λ state stands.
        let d = does (begun state stands) (begun-as state stands) in
        let basis : Ground = ground_in old.core.space old.resident in
        let done = fault_outcome d.0 basis task address cpu (begun state stands) in
        elim (cases_Bool (not state.lying.begun && is_starved d.0)) [
          | inl t ↦
              let lacks = d.3 (and_parts (not state.lying.begun) (is_starved d.0) t).1 in
              served old (record old { pages = Some new }) (fault_reply because.Exhausted result)
              faults_small state state d.0
              (small-is state stands d.0 ∙ ap (by_ground state stands d.0 basis) t
              ∙ ap (λ (r : Result (Option ℕ) PlacedRefusal).
              with_reply (fault_reply because.Exhausted r) state) (sym lacks.1))
              (both-so old (Some new) state.lying old.huge state.huge state stands
              (subst (λ (p : PageState). LiesAs p state.lying) (sym lacks.0)
              (begins_so state.lying stands.lies)) stands.huge)
          | inr e ↦
              served old (record old { pages = Some new }) (fault_reply because.Exhausted result)
              faults_small state (record state { lying = done.1 }) d.0
              (small-is state stands d.0 ∙ ap (by_ground state stands d.0 basis) e
              ∙ ap (λ (r : Result (Option ℕ) PlacedRefusal).
              with_reply (fault_reply because.Exhausted r) (record state { lying = done.1 })) d.2)
              (both-so old (Some new) done.1 old.huge state.huge state stands d.1 stands.huge)
        ]

-- ---- a page of any size

module _ (old : Running) (task address cpu : ℕ) where
  abbrev pub faults : Lack → Hardware → State → Served
  faults lack machine state = fault_unless
      (place_refusal_of machine state.world.history (page_of address) cpu) lack machine task
      address cpu state

  -- it has no list of nodes
  pub fault-refused : (why : PlaceRefusal)
      → ((history : List Command) → StandsFor old.core.space history
      → place_refusal_of old.core.space.machine history (page_of address) cpu ≡ Some why)
      → Serves old (reply.HugeRefused (place_cause why)) old faults
  fault-refused why refuses = λ state stands.
      served old old (reply.HugeRefused (place_cause why)) faults state state Enough
      (ap (λ (o : Option PlaceRefusal).
      fault_unless o Enough old.core.space.machine task address cpu state)
      (refuses state.world.history stands.core.world.space)) stands

  module _ (list : List ℕ)
      (places : (history : List Command) → StandsFor old.core.space history
      → (place_refusal_of old.core.space.machine history (page_of address) cpu ≡ None)
      × (list ≡ node_list old.core.space.machine history task (page_of address) cpu))
      (found : Bool)
      (has : (memory : Option HugeMemory) → StandsForHuge old.huge memory
      → found ≡ is_some (huge_at_address memory address)) where
    abbrev huge_done : Lack → List ℕ → State → Served
    huge_done lack nodes state = huge_faulted (huge_fault lack (huge_page address) nodes
        (memory_on old.core.space.machine state).pages) old.core.space.machine state

    fault-is : (lack : Lack) (state : State) → RunsAs old state → (size : Bool) → found ≡ size
        → faults lack old.core.space.machine state ≡ (if size then huge_done lack list state
        else small_fault_outcome lack old.core.space.machine task address cpu state)
    fault-is lack state stands size is =
        let p = places state.world.history stands.core.world.space in
        ap (λ (o : Option PlaceRefusal).
        fault_unless o lack old.core.space.machine task address cpu state) p.0
        ∙ ap (λ (b : Bool). if b then huge_done lack (node_list old.core.space.machine
        state.world.history task (page_of address) cpu) state
        else small_fault_outcome lack old.core.space.machine task address cpu state)
        (sym (has state.huge stands.huge) ∙ is)
        ∙ ap (λ (nodes : List ℕ). if size then huge_done lack nodes state
        else small_fault_outcome lack old.core.space.machine task address cpu state) (sym p.1)

    pub fault-small : (new : Running) (answer : Reply) → found ≡ false
        → Serves old answer new (λ lack machine state.
        small_fault_outcome lack machine task address cpu state)
        → Serves old answer new faults
    fault-small new answer is = serves-by old new answer
        (λ lack machine state. small_fault_outcome lack machine task address cpu state) faults
        (λ state stands lack. fault-is lack state stands false is)

    pub fault-huge : (kept : HugePages) → old.huge ≡ Some kept → found ≡ true
        → (result : Result (Option ℕ) PlacedRefusal) (kept_then : HugePages)
        → kept_then ≡ record kept { places = kept_then.places }
        → HugeFaults kept.places result kept_then.places (huge_page address) list
        → Serves old (fault_reply because.Killed result)
        (record old { huge = Some kept_then }) faults
    fault-huge kept is size result kept_then rest done = λ state stands.
        let memory : HugeMemory = memory_on old.core.space.machine state in
        let pages = (kept-memory old kept is state stands).pages in
        let fault = huge_fault done.0 (huge_page address) list memory.pages in
        let told : fault.0 ≡ result = ap (λ (p : HugeLying).
        (huge_fault done.0 (huge_page address) list p).0) (sym pages) ∙ done.1 in
        let so : places_of kept_then.places ≡ fault.1 = sym done.2 ∙ ap (λ (p : HugeLying).
        (huge_fault done.0 (huge_page address) list p).1) pages in
        served old (record old { huge = Some kept_then })
        (fault_reply because.Killed result) faults state
        (with_pages fault.1 old.core.space.machine state) done.0
        (fault-is done.0 state stands true size
        ∙ ap (λ (r : Result (Option ℕ) PlacedRefusal). with_reply (fault_reply because.Killed r)
        (with_pages fault.1 old.core.space.machine state)) told)
        (places-so old kept is state stands kept_then fault.1 rest so)

-- ---- every line

-- what is done once something was done before it
comes-before : (old mid new : Running) (found : Taken) (serve : Lack → Hardware → State → Served)
    (before : Hardware → State → State) → mid.core ≡ old.core
    → ((state : State) → RunsAs old state → RunsAs mid (before old.core.space.machine state))
    → ComesTo mid found new serve
    → ComesTo old found new (λ lack machine state. serve lack machine (before machine state))
comes-before old mid new found serve before core so comes =
    by found comes (ap (λ (c : CoreState). c.space.machine) core)
  where
    by : (found : Taken) → ComesTo mid found new serve
        → mid.core.space.machine ≡ old.core.space.machine
        → ComesTo old found new (λ lack machine state. serve lack machine (before machine state))
    by (taken.Reply answer) comes same = λ state stands.
        let s = comes (before old.core.space.machine state) (so state stands) in
        subst (λ (m : Hardware). (lack : Lack)
        × ((serve lack m (before old.core.space.machine state)).answer ≡ Replied answer)
        × RunsAs new (serve lack m (before old.core.space.machine state)).state) same s
    by taken.Arrived comes same = λ state stands.
        let s = comes (before old.core.space.machine state) (so state stands) in
        subst (λ (m : Hardware). (lack : Lack)
        × ((serve lack m (before old.core.space.machine state)).answer
        ≡ Shown (arrived_text (serve lack m (before old.core.space.machine state)).state))
        × RunsAs new (serve lack m (before old.core.space.machine state)).state) same s
    by taken.Pools comes same = λ state stands.
        let s = comes (before old.core.space.machine state) (so state stands) in
        subst (λ (m : Hardware). (lack : Lack)
        × ((serve lack m (before old.core.space.machine state)).answer
        ≡ Shown (pools_line (pools_on new.core.space.machine
        (serve lack m (before old.core.space.machine state)).state)))
        × RunsAs new (serve lack m (before old.core.space.machine state)).state) same s
    by (taken.Question asked) comes same = absurd comes
    by (taken.Maps task) comes same = absurd comes
    by taken.Moved comes same = absurd comes
    by taken.Rooms comes same = absurd comes

module _ (old mid new : Running) (said : HugeLine) (found : Taken) (starts : Bool)
    (is : starts ≡ begins said) where
  outcome-is : (lack : Lack) (machine : Hardware) (state : State) (so : Bool) → starts ≡ so
      → huge_outcome lack machine state said ≡ begun_outcome lack machine
      (if so then begun_on machine state else state) said
  outcome-is lack machine state so same = ap (λ (b : Bool).
      begun_outcome lack machine (if b then begun_on machine state else state) said)
      (sym is ∙ same)

  -- it begins nothing
  pub huge-plain : starts ≡ false
      → ComesTo old found new (λ lack machine state. begun_outcome lack machine state said)
      → Takes old (line.Huge said) found new
  huge-plain nothing comes = comes-taken old new (line.Huge said) found
      (λ lack machine state. begun_outcome lack machine state said) comes
      (λ lack state. outcome-is lack (setup_of old.core).machine state false nothing)
      (λ lack state. refl)

  -- it begins to keep pages of 2 MiB
  pub huge-begun : starts ≡ true → mid.core ≡ old.core
      → ((state : State) → RunsAs old state
      → RunsAs mid (begun_on old.core.space.machine state))
      → ComesTo mid found new (λ lack machine state. begun_outcome lack machine state said)
      → Takes old (line.Huge said) found new
  huge-begun starts_some core begun comes = comes-taken old new (line.Huge said) found
      (λ lack machine state. begun_outcome lack machine (begun_on machine state) said)
      (comes-before old mid new found (λ lack machine state.
      begun_outcome lack machine state said) begun_on core begun comes)
      (λ lack state. outcome-is lack (setup_of old.core).machine state true starts_some)
      (λ lack state. refl)
