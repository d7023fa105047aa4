-- What `unmap` makes of a running machine, where some pages of the span have 2 MiB.
use Rattle.std.proofs.Common.{◌≡◌, ℕ, Bool, true, false, Option, Some, None, Result, Ok, Err}
use Rattle.std.proofs.Common.{refl, sym, ap, subst, ◌∙◌}
use Rattle.std.specs.Prelude.{IfSome, if◌then◌else◌, is_err}
use Rattle.numa_machine.specs.Machine.{Hardware}
use Rattle.numa_requests.specs.declared.command.Command.TheVariants.{Unmap}
use Rattle.numa_requests.specs.declared.page_refusal.PlacedRefusal.{PlacedRefusal}
use Rattle.numa_requests.specs.declared.refusal.Refusal.{Refusal}
use Rattle.numa_core.specs.Steps.{accept_answer, version_of}
use Rattle.numa_core.specs.declared.acceptance.Acceptance.{Acceptance}
use Rattle.numa_core.specs.Standing.{CoreState, setup_of}
use Rattle.numa_space.specs.History.{page_count, page_of}
use Rattle.numa_placed.specs.Laid.{Laid}
use Rattle.numa_huge.specs.Huge.{HugeLying, HugePlaced, lack_for, places_of, too_many, unmapping}
use Rattle.numa_huge.specs.Huge.{with_span}
use Rattle.numa_huge.specs.Moves.{HugeMemory}
use Rattle.numa_huge.specs.Tallies.{IsLackFor, IsMemory, StandsForHuge}
use Rattle.numa_huge.specs.declared.pages.HugePages.{HugePages}
use Rattle.numa_page_state.specs.Huge.{has_huge_in, huge_count, huge_first, unmap_lack}
use Rattle.numa_page_state.specs.Huge.{unmapped_in}
use Rattle.numa_page_state.specs.Lying.{Lying, with_spots}
use Rattle.numa_page_state.specs.Outcomes.{Enough, Lack, forgotten, has_stated}
use Rattle.numa_page_state.specs.Outcomes.{is_starved, lack_of, lack_told}
use Rattle.numa_page_state.specs.Standing.{Forgets, Lies, Replaces}
use Rattle.numa_page_state.specs.declared.state.PageState.{PageState}
use Rattle.numa_script.specs.Replies.{reply_to}
use Rattle.numa_script.specs.declared.reply.Reply.{Reply}
use Rattle.numa_run.specs.Answering.{Served, with_reply}
use Rattle.numa_run.specs.HugeLines.{memory_on}
use Rattle.numa_run.specs.Obeying.{both_so, command_reply, huge_unmap}
use Rattle.numa_run.specs.Obeying.{lying_lack, lying_without, unless_pages}
use Rattle.numa_run.specs.Obeying.{unmap_outcome, unmap_where, with_huge, with_lying}
use Rattle.numa_run.specs.Standing.{IsWithout, RunsAs, Serves, ServesIn}
use Rattle.numa_run.specs.States.{State}
use Rattle.numa_run.specs.declared.running.Running.{Running}
use Rattle.numa_run.proofs.Accepting.{Accepts, served}
use Rattle.numa_run.proofs.Also.{so-goes, so-stays}
use Rattle.numa_run.proofs.Binds.{starved-why}
use Rattle.numa_run.proofs.Fitting.{few-lacks, lack_by, lack-by}
use Rattle.numa_run.proofs.Keeping.{kept-memory, kept-some}

-- ---- pages of 4 KiB

-- they lie so without the span
pub without-lies : (old : Option PageState) (start bytes : ℕ) (small : Option Laid)
    (pages : Option PageState) → Forgets old start bytes (Ok small)
    → (small ≡ None → pages ≡ old) → IfSome small (λ laid. Replaces old laid pages)
    → (lying : Lying) → Lies old lying → Lies pages (lying_without start bytes lying)
without-lies old start bytes None pages forgets none some lying lies =
    let stated : has_stated lying.spots start bytes ≡ false = forgets lying lies in
    let same : lying ≡ lying_without start bytes lying =
    ap (λ (b : Bool). if b then with_spots (forgotten start bytes lying.spots) lying else lying)
    (sym stated) in
    subst (Lies pages) same
    (subst (λ (p : Option PageState). Lies p lying) (sym (none refl)) lies)
without-lies old start bytes (Some laid) pages forgets none some lying lies =
    let f = forgets lying lies in
    let same : with_spots (forgotten start bytes lying.spots) lying
    ≡ lying_without start bytes lying =
    ap (λ (b : Bool). if b then with_spots (forgotten start bytes lying.spots) lying else lying)
    (sym f.0) in
    subst (Lies pages) same (some lying (forgotten start bytes lying.spots) lies f.1 f.2)

-- with memory they lack nothing
lying-enough : (start bytes : ℕ) (lying : Lying) → lying_lack Enough start bytes lying ≡ None
lying-enough start bytes lying = by (has_stated lying.spots start bytes)
  where
    by : (b : Bool) → (if b then lack_of Enough (forgotten start bytes lying.spots) else None)
        ≡ None
    by true = refl
    by false = refl

-- ---- pages of both sizes

module _ (old : Running) (kept : HugePages) (is : old.huge ≡ Some kept) (start bytes : ℕ) where
  abbrev first : ℕ
  first = huge_first (page_of start)

  abbrev count : ℕ
  count = huge_count (page_of start) (page_count bytes)

  abbrev pub unmaps_both : Lack → Hardware → State → Served
  unmaps_both lack machine state =
      huge_unmap lack machine state start bytes (memory_on machine state)

  abbrev then_memory : State → HugeMemory
  then_memory state = unmapped_in start bytes (memory_on old.core.space.machine state)

  abbrev so_then : Lack → State → Served
  so_then lack state = both_so lack old.core.space.machine state (Unmap start bytes)
      (lying_without start bytes state.lying) (Some (then_memory state))

  -- a line unmaps pages of 2 MiB
  both-is : (lack : Lack) (state : State) → RunsAs old state
      → has_huge_in (Some (memory_on old.core.space.machine state)) (page_of start)
      (page_count bytes) ≡ true
      → unmap_outcome lack old.core.space.machine state start bytes
      ≡ unmaps_both lack old.core.space.machine state
  both-is lack state stands has =
      ap (λ (m : Option HugeMemory).
      unmap_where m lack old.core.space.machine state start bytes)
      (kept-some old kept is state stands)
      ∙ ap (λ (b : Bool). if b then unmaps_both lack old.core.space.machine state
      else unmap_where None lack old.core.space.machine state start bytes) has

  has-some : (state : State) → RunsAs old state
      → ((memory : Option HugeMemory) → StandsForHuge old.huge memory
      → has_huge_in memory (page_of start) (page_count bytes) ≡ true)
      → has_huge_in (Some (memory_on old.core.space.machine state)) (page_of start)
      (page_count bytes) ≡ true
  has-some state stands has =
      subst (λ (m : Option HugeMemory). has_huge_in m (page_of start) (page_count bytes) ≡ true)
      (kept-some old kept is state stands) (has state.huge stands.huge)

  module _ (has : (memory : Option HugeMemory) → StandsForHuge old.huge memory
      → has_huge_in memory (page_of start) (page_count bytes) ≡ true) where
    abbrev pub unmaps_all : Lack → Hardware → State → Served
    unmaps_all lack machine state = unmap_outcome lack machine state start bytes

    lacks-same : (lack : Lack) (state : State) → RunsAs old state
        → unmap_lack lack start bytes (memory_on old.core.space.machine state)
        ≡ lack_for (is_starved lack) (with_span first count None (places_of kept.places).spots)
    lacks-same lack state stands = ap (λ (p : HugeLying).
        lack_for (is_starved lack) (with_span first count None p.spots))
        (sym (kept-memory old kept is state stands).pages)

    -- runs of pages of 2 MiB, or memory for them, lack
    pub both-lacks : (why : PlacedRefusal)
        → IsLackFor (with_span first count None (places_of kept.places).spots) why
        → Serves old (command_reply why) old unmaps_all
    both-lacks why lacks = λ state stands.
        let lack : Lack = lack_by lacks.0 in
        let here : unmap_lack lack start bytes (memory_on old.core.space.machine state)
        ≡ Some why = lacks-same lack state stands
        ∙ ap (λ (b : Bool). lack_for b (with_span first count None
        (places_of kept.places).spots)) (lack-by lacks.0) ∙ lacks.1 in
        served old old (command_reply why) unmaps_all state state lack
        (both-is lack state stands (has-some state stands has)
        ∙ ap (λ (o : Option PlacedRefusal). unless_pages o state
        (unless_pages (lying_lack lack start bytes state.lying) state (so_then lack state))) here)
        stands

    module _ (after : HugePlaced)
        (unmaps : places_of after ≡ unmapping first count (places_of kept.places)) where
      pub is-without : (state : State) → RunsAs old state
          → IsWithout start bytes old.core.space.machine state after
      is-without state stands = unmaps ∙ ap (unmapping first count)
          (kept-memory old kept is state stands).pages

      -- pages of 4 KiB stand against it
      pub both-denied : too_many (places_of after).spots ≡ false → (why : PlacedRefusal)
          → Forgets old.pages start bytes (Err why)
          → Serves old (command_reply why) old unmaps_all
      both-denied few why forgets = λ state stands.
          let f = forgets state.lying stands.lies in
          let lack : Lack = lack_told why in
          let machine = old.core.space.machine in
          let small : lying_lack lack start bytes state.lying ≡ Some why =
          ap (λ (b : Bool). if b then lack_of lack (forgotten start bytes state.lying.spots)
          else None) f.0 ∙ f.1 in
          let huge : (starved : Bool) → is_starved lack ≡ starved
          → unless_pages (unmap_lack lack start bytes (memory_on machine state)) state
          (unless_pages (lying_lack lack start bytes state.lying) state (so_then lack state))
          ≡ with_reply (command_reply why) state = both-why why few state stands small in
          served old old (command_reply why) unmaps_all state state lack
          (both-is lack state stands (has-some state stands has)
          ∙ huge (is_starved lack) refl) stands
        where
          few-here : (few : too_many (places_of after).spots ≡ false) (state : State)
              → RunsAs old state → too_many (then_memory state).pages.spots ≡ false
          few-here few state stands =
              ap (λ (p : HugeLying). too_many p.spots) (sym (is-without state stands)) ∙ few

          both-why : (why : PlacedRefusal) → too_many (places_of after).spots ≡ false
              → (state : State) → RunsAs old state
              → lying_lack (lack_told why) start bytes state.lying ≡ Some why
              → (starved : Bool) → is_starved (lack_told why) ≡ starved
              → unless_pages (unmap_lack (lack_told why) start bytes
              (memory_on old.core.space.machine state)) state
              (unless_pages (lying_lack (lack_told why) start bytes state.lying) state
              (so_then (lack_told why) state)) ≡ with_reply (command_reply why) state
          both-why why few state stands small true starved =
              ap (λ (b : Bool). unless_pages (lack_for b (then_memory state).pages.spots) state
              (unless_pages (lying_lack (lack_told why) start bytes state.lying) state
              (so_then (lack_told why) state))) starved
              ∙ ap (λ (r : PlacedRefusal). with_reply (command_reply r) state)
              (sym (starved-why why starved))
          both-why why few state stands small false starved =
              ap (λ (b : Bool). unless_pages (lack_for b (then_memory state).pages.spots) state
              (unless_pages (lying_lack (lack_told why) start bytes state.lying) state
              (so_then (lack_told why) state))) starved
              ∙ ap (λ (o : Option PlacedRefusal). unless_pages o state
              (unless_pages (lying_lack (lack_told why) start bytes state.lying) state
              (so_then (lack_told why) state)))
              (few-lacks (then_memory state).pages.spots (few-here few state stands))
              ∙ ap (λ (o : Option PlacedRefusal). unless_pages o state
              (so_then (lack_told why) state)) small

      -- nothing stands against it but the core
      pub both-serves : (new : Running) (answer : Reply) (small : Option Laid)
          → Forgets old.pages start bytes (Ok small)
          → ((state : State) → RunsAs old state → Forgets old.pages start bytes (Ok small)
          → IsWithout start bytes old.core.space.machine state after
          → ServesIn old answer new unmaps_both state)
          → Serves old answer new unmaps_all
      both-serves new answer small forgets serves = λ state stands.
          let s = serves state stands forgets (is-without state stands) in
          let same = both-is s.0 state stands (has-some state stands has) in (
            s.0,
            ap (λ (r : Served). r.answer) same ∙ s.1,
            subst (λ (r : Served). RunsAs new r.state) (sym same) s.2,
          )

  module _ (core : CoreState) (same : setup_of core ≡ setup_of old.core) (state : State)
      (stands : RunsAs old state) (small : Option Laid)
      (forgets : Forgets old.pages start bytes (Ok small)) (after : HugePlaced)
      (without : IsWithout start bytes old.core.space.machine state after)
      (few : too_many (places_of after).spots ≡ false) where
    abbrev more : Served → Served
    more done = with_huge (Some (then_memory state))
        (with_lying (lying_without start bytes state.lying) done)

    enough : unmaps_both Enough old.core.space.machine state ≡ so_then Enough state
    enough =
        let none = few-lacks (then_memory state).pages.spots
        (ap (λ (p : HugeLying). too_many p.spots) (sym without) ∙ few) in
        ap (λ (o : Option PlacedRefusal). unless_pages o state
        (unless_pages (lying_lack Enough start bytes state.lying) state (so_then Enough state)))
        none
        ∙ ap (λ (o : Option PlacedRefusal). unless_pages o state (so_then Enough state))
        (lying-enough start bytes state.lying)

    pub both-stays : (result : Result Acceptance Refusal) → is_err result ≡ true
        → Accepts old.core (Unmap start bytes) (version_of result) core
        → ServesIn old (reply_to (accept_answer (version_of result)))
        (record old { core = core; huge = Some kept }) unmaps_both state
    both-stays result fails accepts = subst (λ (h : Option HugePages).
        ServesIn old (reply_to (accept_answer (version_of result)))
        (record old { core = core; huge = h }) unmaps_both state) is
        (so-stays old (Unmap start bytes) core same state stands unmaps_both more enough refl
        result fails accepts)

    pub both-goes : (result : Result Acceptance Refusal) → is_err result ≡ false
        → Accepts old.core (Unmap start bytes) (version_of result) core
        → (pages : Option PageState) → (small ≡ None → pages ≡ old.pages)
        → IfSome small (λ laid. Replaces old.pages laid pages) → (kept_then : HugePages)
        → ((memory : HugeMemory) → IsMemory kept memory
        → IsMemory kept_then (record memory { pages = places_of after }))
        → ServesIn old (reply_to (accept_answer (version_of result)))
        (record old { core = core; pages = pages; huge = Some kept_then }) unmaps_both state
    both-goes result goes accepts pages none some kept_then settles =
        let memory = memory_on old.core.space.machine state in
        so-goes old (Unmap start bytes) core same state stands unmaps_both more enough refl pages
        (lying_without start bytes state.lying) (Some kept_then) (Some (then_memory state))
        (without-lies old.pages start bytes small pages forgets none some state.lying stands.lies)
        (subst (λ (p : HugeLying). IsMemory kept_then (record memory { pages = p })) without
        (settles memory (kept-memory old kept is state stands)))
        (λ answer world. refl) result goes accepts
