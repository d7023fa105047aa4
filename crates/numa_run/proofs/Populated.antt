-- What `populate` makes of a running machine, where some pages may have 2 MiB.
use Rattle.std.proofs.Common.{◌≡◌, ℕ, Bool, true, false, Option, Some, None, Result, Ok, Err}
use Rattle.std.proofs.Common.{List, refl, sym, ap, subst, ◌∙◌, inl, inr}
use Rattle.std.proofs.lemmas.Bool.{and_parts, cases_Bool}
use Rattle.std.specs.Option.{option_map}
use Rattle.std.specs.Prelude.{◌&&◌, if◌then◌else◌, not}
use Rattle.numa_machine.specs.Machine.{Hardware}
use Rattle.numa_requests.specs.declared.page_refusal.PlacedRefusal.{PlacedRefusal}
use Rattle.numa_requests.specs.declared.page_refusal.PlacedRefusal.TheVariants as cause
use Rattle.numa_space.specs.History.{page_count, page_of}
use Rattle.numa_huge.specs.Moves.{HugeMemory}
use Rattle.numa_huge.specs.Tallies.{IsMemory, StandsForHuge}
use Rattle.numa_huge.specs.declared.pages.HugePages.{HugePages}
use Rattle.numa_page_state.specs.Huge.{both_populated, has_huge_in, populated_with}
use Rattle.numa_page_state.specs.Huge.{small_populated}
use Rattle.numa_page_state.specs.Lying.{Ground, Lying, ground_in}
use Rattle.numa_page_state.specs.Outcomes.{Lack, Starved, is_starved}
use Rattle.numa_page_state.specs.Standing.{Lies, LiesAs}
use Rattle.numa_page_state.specs.declared.state.PageState.{PageState}
use Rattle.numa_script.specs.declared.page_line.PageLine.TheVariants as page
use Rattle.numa_script.specs.declared.reply.Reply.{Reply}
use Rattle.numa_script.specs.declared.reply.Reply.TheVariants as reply
use Rattle.numa_run.specs.Answering.{Served, Shown, with_reply}
use Rattle.numa_run.specs.HugeLines.{memory_on}
use Rattle.numa_run.specs.PageLines.{arrived_text, both_populate, changed, lack_reply}
use Rattle.numa_run.specs.PageLines.{page_outcome, populate_where, populated_by}
use Rattle.numa_run.specs.Standing.{Changes, ComesTo, Populates, RunsAs, Serves, Shows, taken_by}
use Rattle.numa_run.specs.States.{State}
use Rattle.numa_run.specs.declared.running.Running.{Running}
use Rattle.numa_run.proofs.Accepting.{served}
use Rattle.numa_run.proofs.HugeMoved.{both-so}
use Rattle.numa_run.proofs.Keeping.{huge-so, kept-memory, kept-some}
use Rattle.numa_run.proofs.PageChanges.{nothing-begun}
use Rattle.numa_run.proofs.Processes.{ground-same}

err-same : (result : Result (Unit {0}) PlacedRefusal) (one other : PlacedRefusal)
    → result ≡ Err one → result ≡ Err other → one ≡ other
err-same result one other is so = cc

ok-err : (result : Result (Unit {0}) PlacedRefusal) (why : PlacedRefusal) → result ≡ Ok tt
    → result ≡ Err why → ⊥
ok-err result why is so = cc

-- a text is shown of the state that is reached
shown-so : (old new : Running) (serve : Lack → Hardware → State → Served)
    (text : Hardware → State → List ℕ) (state after : State) (lack : Lack)
    → serve lack old.core.space.machine state ≡ record {
      answer = Shown (text new.core.space.machine after);
      state = after;
    } → RunsAs new after → (lack : Lack)
    × ((serve lack old.core.space.machine state).answer
    ≡ Shown (text new.core.space.machine (serve lack old.core.space.machine state).state))
    × RunsAs new (serve lack old.core.space.machine state).state
shown-so old new serve text state after lack is runs = (
  lack,
  ap (λ (s : Served). s.answer) is
      ∙ ap (λ (s : Served). Shown (text new.core.space.machine s.state)) (sym is),
  subst (λ (s : Served). RunsAs new s.state) (sym is) runs,
)

module _ (old : Running) (start bytes task cpu : ℕ) where
  abbrev pub populates : Lack → Hardware → State → Served
  populates lack machine state =
      page_outcome lack machine state (page.Populate start bytes task cpu)

  abbrev small : Lack → State → Served
  small lack state =
      changed lack old.core.space.machine state (page.Populate start bytes task cpu)

  -- ---- of both sizes

  module _ (there : (memory : Option HugeMemory) → StandsForHuge old.huge memory
      → has_huge_in memory (page_of start) (page_count bytes) ≡ true)
      (kept : HugePages) (is : old.huge ≡ Some kept) where
    abbrev begun_at : State → Lying
    begun_at state = record state.lying { begun = true }

    abbrev memory : State → HugeMemory
    memory state = memory_on old.core.space.machine state

    abbrev done_by : Ground → Lack → State → Result (Unit {0}) PlacedRefusal
        × (Lying × HugeMemory)
    done_by basis lack state =
        both_populated lack basis start bytes task cpu (memory state) (begun_at state)

    abbrev done : Lack → State → Result (Unit {0}) PlacedRefusal × (Lying × HugeMemory)
    done lack state = done_by (ground_in old.core.space old.resident) lack state

    abbrev starved_reply : State → Served
    starved_reply state =
        with_reply (lack_reply (page.Populate start bytes task cpu)) state

    abbrev by_starved : Lack → State → Bool → Served
    by_starved lack state lacks = if lacks then starved_reply state
        else populated_by (done lack state) state

    populates-is : (lack : Lack) (state : State) → RunsAs old state
        → populates lack old.core.space.machine state
        ≡ by_starved lack state (not state.lying.begun && is_starved lack)
    populates-is lack state stands =
        let some = kept-some old kept is state stands in
        ap (λ (m : Option HugeMemory).
        populate_where m lack old.core.space.machine state start bytes task cpu) some
        ∙ ap (λ (b : Bool). if b
        then both_populate lack old.core.space.machine state start bytes task cpu (memory state)
        else changed lack old.core.space.machine (record state {
          huge = Some (record (memory state) { arrived = None });
        }) (page.Populate start bytes task cpu))
        (subst (λ (m : Option HugeMemory). has_huge_in m (page_of start) (page_count bytes)
        ≡ true) some (there state.huge stands.huge))
        ∙ ap (λ (basis : Ground). if not state.lying.begun && is_starved lack
        then starved_reply state else populated_by (done_by basis lack state) state)
        (ground-same old state stands)

    -- there is no memory to begin
    pub both-starved : (pages : Option PageState) → (pages ≡ old.pages) × (old.pages ≡ None)
        → Serves old (reply.PlacedRefused cause.NoMemory)
        (record old { pages = pages; huge = Some kept }) populates
    both-starved pages same = λ state stands.
        let early = nothing-begun old.pages state.lying same.1 stands.lies in
        served old (record old { pages = pages; huge = Some kept })
        (reply.PlacedRefused cause.NoMemory) populates state state Starved
        (populates-is Starved state stands
        ∙ ap (λ (b : Bool). by_starved Starved state (not b && true)) early)
        (both-so old pages state.lying (Some kept) state.huge state stands
        (subst (λ (p : Option PageState). Lies p state.lying) (sym same.0) stands.lies)
        (subst (λ (h : Option HugePages). StandsForHuge h state.huge) is stands.huge))

    module _ (pages : PageState)
        (begins : (lying : Lying) → Lies old.pages lying → LiesAs pages lying)
        (pages_then : PageState) (kept_then : HugePages)
        (result : Result (Unit {0}) PlacedRefusal)
        (does : Populates pages kept result pages_then kept_then (λ lack memory at.
        both_populated lack (ground_in old.core.space old.resident) start bytes task cpu memory
        at)) where
      abbrev new : Running
      new = record old { pages = Some pages_then; huge = Some kept_then }

      begun-as : (state : State) → RunsAs old state → LiesAs pages (begun_at state)
      begun-as state stands =
          let before = begins state.lying stands.lies in
          record {
            spots = before.spots;
            room = before.room;
            follows = before.follows;
            last = before.last;
            arrived = before.arrived;
          }

      -- it is refused
      pub both-refused : (why : PlacedRefusal) → result ≡ Err why
          → Serves old (reply.PlacedRefused why) new populates
      both-refused why fails = λ state stands.
          let d = does (memory state) (begun_at state) (kept-memory old kept is state stands)
          (begun-as state stands) in
          elim (cases_Bool (not state.lying.begun && is_starved d.0)) [
            | inl t ↦
                let lacks = d.4 (and_parts (not state.lying.begun) (is_starved d.0) t).1 in
                let which : why ≡ cause.NoMemory =
                err-same result why cause.NoMemory fails lacks.0 in
                served old new (reply.PlacedRefused why) populates state state d.0
                (populates-is d.0 state stands ∙ ap (by_starved d.0 state) t
                ∙ ap (λ (w : PlacedRefusal). with_reply (reply.PlacedRefused w) state)
                (sym which))
                (both-so old (Some pages_then) state.lying (Some kept_then) state.huge state stands
                (subst (λ (p : PageState). LiesAs p state.lying) (sym lacks.1)
                (begins state.lying stands.lies))
                (subst (λ (k : HugePages). StandsForHuge (Some k) state.huge) (sym lacks.2)
                (subst (λ (h : Option HugePages). StandsForHuge h state.huge) is stands.huge)))
            | inr e ↦
                let ends : (done d.0 state).0 ≡ Err why = d.1 ∙ fails in
                let huge_same : (done d.0 state).1.1 ≡ memory state =
                refused-memory d.0 state why ends in
                served old new (reply.PlacedRefused why) populates state
                (record state { lying = (done d.0 state).1.0 }) d.0
                (populates-is d.0 state stands ∙ ap (by_starved d.0 state) e
                ∙ ap (λ (r : Result (Unit {0}) PlacedRefusal).
                populated_by (r, (done d.0 state).1) state) ends)
                (both-so old (Some pages_then) (done d.0 state).1.0 (Some kept_then) state.huge
                state stands d.2
                (subst (λ (o : Option HugeMemory). StandsForHuge (Some kept_then) o)
                (sym (kept-some old kept is state stands))
                (subst (λ (m : HugeMemory). IsMemory kept_then m) huge_same d.3)))
          ]
        where
          memory-same : (lack : Lack) (m : HugeMemory) (at : Lying) (why : PlacedRefusal)
              → (both_populated lack (ground_in old.core.space old.resident) start bytes task cpu m
              at).0 ≡ Err why
              → (both_populated lack (ground_in old.core.space old.resident) start bytes task cpu m
              at).1.1 ≡ m
          memory-same lack m at why = by (is_starved lack) (small_populated lack
              (ground_in old.core.space old.resident) start bytes task cpu m at)
            where
              by : (starved : Bool) (told : Result (Unit {0}) PlacedRefusal × Lying)
                  → (if starved then (Err cause.NoMemory, (at, m)) else populated_with
                  (ground_in old.core.space old.resident) start bytes task cpu m told).0 ≡ Err why
                  → (if starved then (Err cause.NoMemory, (at, m)) else populated_with
                  (ground_in old.core.space old.resident) start bytes task cpu m told).1.1 ≡ m
              by true told ends = refl
              by false (Err reason, after) ends = refl
              by false (Ok did, after) ends = cc

          refused-memory : (lack : Lack) (state : State) (why : PlacedRefusal)
              → (done lack state).0 ≡ Err why → (done lack state).1.1 ≡ memory state
          refused-memory lack state why ends = memory-same lack (memory state) (begun_at state) why
              ends

      -- pages were touched
      pub both-done : result ≡ Ok tt
          → Shows old new populates (λ machine state. arrived_text state)
      both-done goes = λ state stands.
          let d = does (memory state) (begun_at state) (kept-memory old kept is state stands)
          (begun-as state stands) in
          let ends : (done d.0 state).0 ≡ Ok tt = d.1 ∙ goes in
          let reached : State = record state {
            lying = (done d.0 state).1.0;
            huge = Some (done d.0 state).1.1;
          } in
          elim (cases_Bool (not state.lying.begun && is_starved d.0)) [
            | inl t ↦
                let lacks = d.4 (and_parts (not state.lying.begun) (is_starved d.0) t).1 in
                absurd (ok-err result cause.NoMemory goes lacks.0)
            | inr e ↦ shown-so old new populates (λ machine state. arrived_text state) state
                reached d.0
                (populates-is d.0 state stands ∙ ap (by_starved d.0 state) e
                ∙ ap (λ (r : Result (Unit {0}) PlacedRefusal).
                populated_by (r, (done d.0 state).1) state) ends)
                (both-so old (Some pages_then) (done d.0 state).1.0 (Some kept_then)
                (Some (done d.0 state).1.1) state stands d.2 d.3)
          ]

  -- ---- of 4 KiB alone

  small-where : (memory : Option HugeMemory) (lack : Lack) (state : State)
      → state.huge ≡ memory → has_huge_in memory (page_of start) (page_count bytes) ≡ false
      → populate_where memory lack old.core.space.machine state start bytes task cpu
      ≡ small lack (record state {
        huge = option_map (λ (m : HugeMemory). record m { arrived = None }) memory;
      })
  small-where None lack state is none =
      ap (λ (h : Option HugeMemory). small lack (record state { huge = h })) is
  small-where (Some memory) lack state is none =
      ap (λ (b : Bool). if b
      then both_populate lack old.core.space.machine state start bytes task cpu memory
      else small lack (record state { huge = Some (record memory { arrived = None }) })) none

  pub small-comes : (huge : Option HugePages) (new : Running) (told : Option Reply)
      → ((memory : Option HugeMemory) → StandsForHuge old.huge memory
      → has_huge_in memory (page_of start) (page_count bytes) ≡ false)
      → ((memory : Option HugeMemory) → StandsForHuge old.huge memory
      → StandsForHuge huge (option_map (λ (m : HugeMemory). record m { arrived = None }) memory))
      → Changes (record old { huge = huge }) told new (λ lack machine state.
      changed lack machine state (page.Populate start bytes task cpu))
      → ComesTo old (taken_by told) new populates
  small-comes huge new (Some answer) none forgets changes = λ state stands.
      let memory = option_map (λ (m : HugeMemory). record m { arrived = None }) state.huge in
      let c = changes (record state { huge = memory }) (huge-so old huge memory state stands
      (forgets state.huge stands.huge)) in
      served old new answer populates state c.1 c.0
      (small-where state.huge c.0 state refl (none state.huge stands.huge) ∙ c.2) c.3
  small-comes huge new None none forgets changes = λ state stands.
      let memory = option_map (λ (m : HugeMemory). record m { arrived = None }) state.huge in
      let c = changes (record state { huge = memory }) (huge-so old huge memory state stands
      (forgets state.huge stands.huge)) in
      shown-so old new populates (λ machine state. arrived_text state) state c.1 c.0
      (small-where state.huge c.0 state refl (none state.huge stands.huge) ∙ c.2) c.3
