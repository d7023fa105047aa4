-- What `move` of a page of 2 MiB makes of a running machine.
use Rattle.std.proofs.Common.{◌≡◌, ℕ, ◌==◌, Bool, true, false, Option, Some, None, Result, Ok, Err}
use Rattle.std.proofs.Common.{[], ◌⊎◌, refl, sym, ap, subst, ◌∙◌, inl, inr}
use Rattle.std.proofs.lemmas.Bool.{and_parts, cases_Bool}
use Rattle.std.specs.Prelude.{◌&&◌, IsSomeAnd, if◌then◌else◌, is_some, not}
use Rattle.numa_machine.specs.Machine.{Hardware}
use Rattle.numa_requests.specs.declared.page_refusal.MoveRefusal.{MoveRefusal}
use Rattle.numa_requests.specs.declared.page_refusal.MoveRefusal.TheVariants as move
use Rattle.numa_requests.specs.declared.page_refusal.PlacedRefusal.{PlacedRefusal}
use Rattle.numa_huge.specs.Huge.{lack_for, node_of, with_span}
use Rattle.numa_huge.specs.Moves.{HugeMemory}
use Rattle.numa_huge.specs.Tallies.{IsMemory, StandsForHuge}
use Rattle.numa_huge.specs.declared.pages.HugePages.{HugePages}
use Rattle.numa_huge.specs.declared.spot.HugeSpot.TheVariants.{On}
use Rattle.numa_page_state.specs.Huge.{HugeMoves, huge_at_address, huge_move, huge_move_cause}
use Rattle.numa_page_state.specs.Huge.{huge_move_lack, huge_page, move_lack_by, move_unless_lack}
use Rattle.numa_page_state.specs.Lying.{Ground, Lying, OfNodes, ground_in, ground_of, still}
use Rattle.numa_page_state.specs.Outcomes.{Enough, Lack, Starved, is_starved}
use Rattle.numa_page_state.specs.Standing.{Lies, LiesAs}
use Rattle.numa_page_state.specs.declared.state.PageState.{PageState}
use Rattle.numa_script.specs.declared.page_line.PageLine.TheVariants as page
use Rattle.numa_script.specs.declared.reply.Reply.TheVariants as reply
use Rattle.numa_run.specs.Answering.{Served, with_reply}
use Rattle.numa_run.specs.HugeLines.{memory_on}
use Rattle.numa_run.specs.PageLines.{changed, huge_move_outcome, huge_moved, lack_reply, move_where}
use Rattle.numa_run.specs.PageLines.{page_outcome, small_moved}
use Rattle.numa_run.specs.Standing.{RunsAs, Serves}
use Rattle.numa_run.specs.States.{State, process_on}
use Rattle.numa_run.specs.declared.running.Running.{Running}
use Rattle.numa_run.proofs.Accepting.{served}
use Rattle.numa_run.proofs.Keeping.{kept-memory, kept-some}
use Rattle.numa_run.proofs.PageChanges.{begun-lies, nothing-begun}
use Rattle.numa_run.proofs.Processes.{ground-same}

-- with other pages of both sizes
pub both-so : (old : Running) (pages : Option PageState) (lying : Lying)
    (huge : Option HugePages) (memory : Option HugeMemory) (state : State) → RunsAs old state
    → Lies pages lying → StandsForHuge huge memory
    → RunsAs (record old { pages = pages; huge = huge })
    (record state { lying = lying; huge = memory })
both-so old pages lying huge memory state stands lies kept = record {
  core = record {
    bounds = stands.core.bounds;
    machine = stands.core.machine;
    workers = stands.core.workers;
    world = stands.core.world;
  };
  resident = stands.resident;
  lies = lies;
  huge = kept;
}

and-false : (b : Bool) → (b && false) ≡ false
and-false true = refl
and-false false = refl

and-true : (b : Bool) → b ≡ true → (b && true) ≡ true
and-true b is = rw is refl

err-same : (result : Result (Unit {0}) MoveRefusal) (one other : MoveRefusal)
    → result ≡ Err one → result ≡ Err other → one ≡ other
err-same result one other is so = cc

ok-err : (result : Result (Unit {0}) MoveRefusal) (why : MoveRefusal) → result ≡ Ok tt
    → result ≡ Err why → ⊥
ok-err result why is so = cc

some-begun : (before pages : Option PageState)
    → IsSomeAnd pages (λ kept. (lying : Lying) → Lies before lying → LiesAs kept lying)
    → is_some pages ≡ true
some-begun before (Some kept) all = refl
some-begun before None all = absurd all

-- lack of memory is told only where nothing else stands against it, and there is a change
module _ (cause : Option MoveRefusal) (page node : ℕ) (memory : HugeMemory) where
  abbrev moved_with : Lack → Option ℕ → Result (Unit {0}) MoveRefusal × HugeMemory
  moved_with lack lies = move_unless_lack cause
      (move_lack_by (huge_move_lack lack page node lies memory.pages)) page node memory

  abbrev lack_else : Bool → Bool → Option PlacedRefusal
  lack_else same starved = if same then None
      else lack_for starved (with_span page 1 (Some (On node)) memory.pages.spots)

  starved-or : (lack : Lack) (lies : Option ℕ) → is_starved lack ≡ true
      → (moved_with lack lies ≡ moved_with Enough lies)
      ⊎ (moved_with lack lies ≡ (Err move.NoMemory, memory))
  starved-or lack None starved = inl refl
  starved-or lack (Some from) starved =
      elim (cases_Bool (from == node)) [
        | inl t ↦ inl (by_same t ∙ sym (by_same_enough t))
        | inr e ↦ by_cause cause refl e
      ]
    where
      by_same : from == node ≡ true → moved_with lack (Some from)
          ≡ move_unless_lack cause None page node memory
      by_same t = ap (λ (b : Bool). move_unless_lack cause
          (move_lack_by (lack_else b (is_starved lack))) page node memory) t

      by_same_enough : from == node ≡ true → moved_with Enough (Some from)
          ≡ move_unless_lack cause None page node memory
      by_same_enough t = ap (λ (b : Bool). move_unless_lack cause
          (move_lack_by (lack_else b false)) page node memory) t

      by_cause : (why : Option MoveRefusal) → cause ≡ why → from == node ≡ false
          → (moved_with lack (Some from) ≡ moved_with Enough (Some from))
          ⊎ (moved_with lack (Some from) ≡ (Err move.NoMemory, memory))
      by_cause (Some why) is e =
          let same : moved_with lack (Some from) ≡ moved_with Enough (Some from) =
          ap (λ (o : Option MoveRefusal). move_unless_lack o
          (move_lack_by (lack_else (from == node) (is_starved lack))) page node memory) is
          ∙ sym (ap (λ (o : Option MoveRefusal). move_unless_lack o
          (move_lack_by (lack_else (from == node) false)) page node memory) is) in
          inl same
      by_cause None is e =
          let lacks : moved_with lack (Some from) ≡ (Err move.NoMemory, memory) =
          ap (λ (b : Bool). move_unless_lack cause (move_lack_by (lack_else b (is_starved lack)))
          page node memory) e
          ∙ ap (λ (b : Bool). move_unless_lack cause (move_lack_by (lack_else false b)) page node
          memory) starved
          ∙ ap (λ (o : Option MoveRefusal). move_unless_lack o (Some move.NoMemory) page node
          memory) is in
          inr lacks

  -- what is refused changes nothing
  refused-same : (lack : Option MoveRefusal) (why : MoveRefusal)
      → (move_unless_lack cause lack page node memory).0 ≡ Err why
      → (move_unless_lack cause lack page node memory).1 ≡ memory
  refused-same lack why = by cause lack
    where
      by : (first other : Option MoveRefusal)
          → (move_unless_lack first other page node memory).0 ≡ Err why
          → (move_unless_lack first other page node memory).1 ≡ memory
      by (Some one) other is = refl
      by None (Some one) is = refl
      by None None is = cc

module _ (old : Running) (address node : ℕ)
    (there : (memory : Option HugeMemory) → StandsForHuge old.huge memory
    → is_some (huge_at_address memory address) ≡ true) where
  abbrev pub moves_huge : Lack → Hardware → State → Served
  moves_huge lack machine state = page_outcome lack machine state (page.Move address node)

  abbrev begun_in : State → State
  begun_in state = record state { lying = record state.lying { begun = true } }

  abbrev moved_in_state : Lack → State → HugeMemory → Served
  moved_in_state lack state memory = huge_move_outcome lack old.core.space.machine state memory
      address node

  where-is : (lack : Lack) (state : State) (memory : Option HugeMemory)
      → is_some (huge_at_address memory address) ≡ true → (kept : HugeMemory)
      → memory ≡ Some kept
      → move_where memory lack old.core.space.machine state address node
      ≡ moved_in_state lack state kept
  where-is lack state memory has kept is =
      ap (λ (m : Option HugeMemory). move_where m lack old.core.space.machine state address node)
      is
      ∙ ap (λ (b : Bool). if b then moved_in_state lack state kept
      else small_moved kept (changed lack old.core.space.machine state (page.Move address node)))
      (subst (λ (m : Option HugeMemory). is_some (huge_at_address m address) ≡ true) is has)

  -- there is no memory to begin
  pub huge-starved : (kept : HugePages) → old.huge ≡ Some kept → (pages : Option PageState)
      → (pages ≡ old.pages) × (old.pages ≡ None)
      → Serves old (lack_reply (page.Move address node))
      (record old { pages = pages; huge = Some kept }) moves_huge
  huge-starved kept is pages same = λ state stands.
      let memory : HugeMemory = memory_on old.core.space.machine state in
      let early = nothing-begun old.pages state.lying same.1 stands.lies in
      served old (record old { pages = pages; huge = Some kept })
      (lack_reply (page.Move address node)) moves_huge state state Starved
      (where-is Starved state state.huge (there state.huge stands.huge) memory
      (kept-some old kept is state stands)
      ∙ ap (λ (b : Bool). if not b && true
      then with_reply (lack_reply (page.Move address node)) state
      else huge_moved node (huge_move Starved (ground_of (process_on old.core.space.machine state))
      (huge_page address) node memory) (begun_in state)) early)
      (both-so old pages state.lying (Some kept) state.huge state stands
      (subst (λ (p : Option PageState). Lies p state.lying) (sym same.0) stands.lies)
      (subst (λ (h : Option HugePages). StandsForHuge h state.huge) is stands.huge))

  module _ (kept : HugePages) (is : old.huge ≡ Some kept) (pages : Option PageState)
      (begins : IsSomeAnd pages (λ k. (lying : Lying) → Lies old.pages lying → LiesAs k lying))
      (kept_then : HugePages) (result : Result (Unit {0}) MoveRefusal)
      (moves_so : (memory : HugeMemory) → IsMemory kept memory → HugeMoves memory result kept_then
      (ground_in old.core.space []) (huge_page address) node) where
    module _ (state : State) (stands : RunsAs old state) where
      abbrev memory : HugeMemory
      memory = memory_on old.core.space.machine state

      abbrev cause_here : Option MoveRefusal
      cause_here = huge_move_cause old.core.space.machine old.core.space.allowed node
          (node_of (memory.pages.spots (huge_page address)))

      abbrev done_with : Lack → Result (Unit {0}) MoveRefusal × HugeMemory
      done_with lack = huge_move lack (ground_in old.core.space old.resident) (huge_page address)
          node memory

      found : HugeMoves memory result kept_then (ground_in old.core.space []) (huge_page address)
          node
      found = moves_so memory (kept-memory old kept is state stands)

      abbrev outcome_with : Lack → Bool → Served
      outcome_with lack lacks = if lacks
          then with_reply (lack_reply (page.Move address node)) state
          else huge_moved node (done_with lack) (begun_in state)

      outcome-is : (lack : Lack) → moves_huge lack old.core.space.machine state
          ≡ outcome_with lack (not state.lying.begun && is_starved lack)
      outcome-is lack = where-is lack state state.huge (there state.huge stands.huge) memory
          (kept-some old kept is state stands)
          ∙ ap (λ (basis : Ground). if not state.lying.begun && is_starved lack
          then with_reply (lack_reply (page.Move address node)) state
          else huge_moved node (huge_move lack basis (huge_page address) node memory)
          (begun_in state)) (ground-same old state stands)

      -- it was done so by what it lacked, or memory lacked before all
      abbrev IsDone : Type 0
      IsDone = (lack : Lack)
          × (moves_huge lack old.core.space.machine state
          ≡ huge_moved node (done_with lack) (begun_in state))
          × (done_with lack ≡ done_with found.0)

      abbrev IsLacked : Type 0
      IsLacked = (moves_huge Starved old.core.space.machine state
          ≡ with_reply (reply.MoveRefused move.NoMemory) state)
          × (done_with found.0 ≡ (Err move.NoMemory, memory))

      done-or : IsDone ⊎ IsLacked
      done-or = elim (cases_Bool (not state.lying.begun && is_starved found.0)) [
        | inr e ↦ inl (
          found.0,
          outcome-is found.0 ∙ ap (outcome_with found.0) e,
          refl,
        )
        | inl t ↦
            let both = and_parts (not state.lying.begun) (is_starved found.0) t in
            elim (starved-or cause_here (huge_page address) node memory found.0
            (node_of (memory.pages.spots (huge_page address))) both.1) [
              | inl same ↦ inl (
                Enough,
                outcome-is Enough
                    ∙ ap (outcome_with Enough) (and-false (not state.lying.begun)),
                sym same,
              )
              | inr lacks ↦ inr (
                outcome-is Starved ∙ ap (outcome_with Starved) (and-true (not state.lying.begun)
                    both.0),
                lacks,
              )
            ]
      ]

    -- it is refused
    pub huge-refused : (why : MoveRefusal) → result ≡ Err why
        → Serves old (reply.MoveRefused why)
        (record old { pages = pages; huge = Some kept_then }) moves_huge
    huge-refused why fails = λ state stands.
        let f = found state stands in
        let new : Running = record old { pages = pages; huge = Some kept_then } in
        let m : HugeMemory = memory_on old.core.space.machine state in
        let err : (done_with state stands f.0).0 ≡ Err why = f.1 ∙ fails in
        let same : (done_with state stands f.0).1 ≡ m =
        refused-same (cause_here state stands) (huge_page address) node m
        (move_lack_by (huge_move_lack f.0 (huge_page address) node
        (node_of (m.pages.spots (huge_page address))) m.pages)) why err in
        let kept_so : StandsForHuge (Some kept_then) state.huge =
        subst (λ (o : Option HugeMemory). StandsForHuge (Some kept_then) o)
        (sym (kept-some old kept is state stands))
        (subst (λ (k : HugeMemory). IsMemory kept_then k) same f.2) in
        elim (done-or state stands) [
          | inl done ↦ served old new (reply.MoveRefused why) moves_huge state (begun_in state)
              done.0
              (done.1 ∙ ap (λ (p : Result (Unit {0}) MoveRefusal × HugeMemory).
              huge_moved node p (begun_in state)) done.2
              ∙ ap (λ (r : Result (Unit {0}) MoveRefusal).
              huge_moved node (r, (done_with state stands f.0).1) (begun_in state)) err)
              (both-so old pages (record state.lying { begun = true }) (Some kept_then) state.huge
              state stands (begun-lies old.pages pages begins state.lying stands.lies true)
              kept_so)
          | inr lacked ↦
              let which : why ≡ move.NoMemory =
              err-same (done_with state stands f.0).0 why move.NoMemory err
              (ap (λ (p : Result (Unit {0}) MoveRefusal × HugeMemory). p.0) lacked.1) in
              served old new (reply.MoveRefused why) moves_huge state state Starved
              (lacked.0 ∙ ap (λ (w : MoveRefusal). with_reply (reply.MoveRefused w) state)
              (sym which))
              (both-so old pages state.lying (Some kept_then) state.huge state stands
              (begun-lies old.pages pages begins state.lying stands.lies state.lying.begun)
              kept_so)
        ]

    -- it moved
    pub huge-done : result ≡ Ok tt → (pages_then : Option PageState)
        → ((lying : Lying) → Lies pages lying → is_some pages ≡ true
        → Lies pages_then (record lying { last = OfNodes still }))
        → Serves old (reply.MovedTo node)
        (record old { pages = pages_then; huge = Some kept_then }) moves_huge
    huge-done goes pages_then rests = λ state stands.
        let f = found state stands in
        let new : Running = record old { pages = pages_then; huge = Some kept_then } in
        let ok : (done_with state stands f.0).0 ≡ Ok tt = f.1 ∙ goes in
        let begun : Lying = record state.lying { begun = true } in
        elim (done-or state stands) [
          | inl done ↦ served old new (reply.MovedTo node) moves_huge state
              (record state {
                lying = record begun { last = OfNodes still };
                huge = Some (done_with state stands f.0).1;
              }) done.0
              (done.1 ∙ ap (λ (p : Result (Unit {0}) MoveRefusal × HugeMemory).
              huge_moved node p (begun_in state)) done.2
              ∙ ap (λ (r : Result (Unit {0}) MoveRefusal).
              huge_moved node (r, (done_with state stands f.0).1) (begun_in state)) ok)
              (both-so old pages_then (record begun { last = OfNodes still }) (Some kept_then)
              (Some (done_with state stands f.0).1) state stands
              (rests begun (begun-lies old.pages pages begins state.lying stands.lies true)
              (some-begun old.pages pages begins)) f.2)
          | inr lacked ↦ absurd (ok-err (done_with state stands f.0).0 move.NoMemory ok
              (ap (λ (p : Result (Unit {0}) MoveRefusal × HugeMemory). p.0) lacked.1))
        ]
