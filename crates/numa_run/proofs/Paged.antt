-- What a line about pages makes of a running machine, where some pages may have 2 MiB.
use Rattle.std.proofs.Common.{◌≡◌, ◌≢◌, ℕ, ◌+◌, ◌≤◌, Bool, true, false, Option, Some}
use Rattle.std.proofs.Common.{None, refl, sym, ap, subst, ◌∙◌, arith}
use Rattle.std.specs.Option.{option_map}
use Rattle.std.specs.Prelude.{if◌then◌else◌, is_some, min}
use Rattle.numa_machine.specs.Machine.{Hardware}
use Rattle.numa_mask.specs.NodeSet.{both}
use Rattle.numa_space.specs.Policies.{allowed_nodes}
use Rattle.numa_huge.specs.Moves.{HugeMemory, leave_all}
use Rattle.numa_huge.specs.Tallies.{StandsForHuge}
use Rattle.numa_huge.specs.declared.pages.HugePages.{HugePages}
use Rattle.numa_page_state.specs.Huge.{has_huge_in, huge_at_address}
use Rattle.numa_page_state.specs.Huge.{huge_followed, huge_rested}
use Rattle.numa_page_state.specs.Outcomes.{Enough, Lack}
use Rattle.numa_requests.specs.declared.page_refusal.HugeRefusal.TheVariants as because
use Rattle.numa_script.specs.declared.page_line.PageLine.TheVariants as page
use Rattle.numa_script.specs.declared.reply.Reply.{Reply}
use Rattle.numa_script.specs.declared.reply.Reply.TheVariants as reply
use Rattle.numa_run.specs.Answering.{Answer, Replied, Served, with_reply}
use Rattle.numa_run.specs.PageLines.{also_moved, changed}
use Rattle.numa_run.specs.PageLines.{huge_move_outcome, migrate_where}
use Rattle.numa_run.specs.PageLines.{migrated_by, move_where, page_outcome}
use Rattle.numa_run.specs.PageLines.{shift_told, small_moved, tells_move, unless_huge}
use Rattle.numa_run.specs.Obeying.{with_huge}
use Rattle.numa_run.specs.Standing.{RunsAs, Serves}
use Rattle.numa_run.specs.States.{State}
use Rattle.numa_run.specs.declared.running.Running.{Running}
use Rattle.numa_run.proofs.Accepting.{served, serves-by}
use Rattle.numa_page_state.proofs.Few.{leave-few}
use Rattle.numa_run.proofs.Few.{changed-few}
use Rattle.numa_run.proofs.Keeping.{huge-so}
use Rattle.numa_run.proofs.PageChanges.{changed-huge}

-- ---- a page of 2 MiB stands against it

module _ (old : Running) (first pages : ℕ) (serve : Lack → Hardware → State → Served)
    (found : Bool) (has : (memory : Option HugeMemory) → StandsForHuge old.huge memory
    → found ≡ has_huge_in memory first pages) where
  abbrev pub unless_there : Lack → Hardware → State → Served
  unless_there lack machine state = unless_huge first pages state (serve lack machine state)

  pub there-refused : found ≡ true
      → Serves old (reply.HugeRefused because.NotSupported) old unless_there
  there-refused is = λ state stands.
      served old old (reply.HugeRefused because.NotSupported) unless_there state state Enough
      (ap (λ (b : Bool). if b then with_reply (reply.HugeRefused because.NotSupported) state
      else serve Enough old.core.space.machine state)
      (sym (has state.huge stands.huge) ∙ is)) stands

  pub there-plain : (new : Running) (answer : Reply) → found ≡ false
      → Serves old answer new serve → Serves old answer new unless_there
  there-plain new answer is = serves-by old new answer serve unless_there
      (λ state stands lack. ap (λ (b : Bool).
      if b then with_reply (reply.HugeRefused because.NotSupported) state
      else serve lack old.core.space.machine state) (sym (has state.huge stands.huge) ∙ is))

-- ---- migrate FROM TO

also-few : (from to : ℕ) (memory : Option HugeMemory) → also_moved from to memory ≤ 17179869184
also-few from to None = omega arith
also-few from to (Some memory) = leave-few from to memory.pages.spots

shift-none : (answer : Reply) → ((moved left : ℕ) → answer ≢ reply.Moved moved left)
    → shift_told (Replied answer) ≡ None
shift-none (reply.Moved moved left) other = absurd (other moved left refl)
shift-none answer other = refl

module _ (old mid : Running) (from to : ℕ) (answer : Reply)
    (serves : Serves old answer mid (λ lack machine state.
    changed lack machine state (page.Migrate from to)))
    (same_huge : mid.huge ≡ old.huge) where
  abbrev pub migrates : Lack → Hardware → State → Served
  migrates lack machine state = page_outcome lack machine state (page.Migrate from to)

  abbrev small : Lack → State → Served
  small lack state = changed lack old.core.space.machine state (page.Migrate from to)

  abbrev targets_on : State → ℕ
  targets_on state = both to (allowed_nodes old.core.space.machine state.world.history)

  -- nothing moved
  other-where : (memory : Option HugeMemory) (targets : ℕ) (done : Served)
      → shift_told done.answer ≡ None → migrate_where memory from targets done ≡ done
  other-where None targets done none = refl
  other-where (Some memory) targets done none =
      ap (λ (o : Option (ℕ × ℕ)). migrated_by o from targets memory done) none

  pub migrate-other : ((moved left : ℕ) → answer ≢ reply.Moved moved left)
      → Serves old answer mid migrates
  migrate-other other = λ state stands.
      let s = serves state stands in
      let none = ap shift_told s.1 ∙ shift-none answer other in
      let is : migrates s.0 old.core.space.machine state ≡ small s.0 state =
      other-where state.huge (targets_on state) (small s.0 state) none in (
        s.0,
        ap (λ (r : Served). r.answer) is ∙ s.1,
        subst (λ (r : Served). RunsAs mid r.state) (sym is) s.2,
      )

  -- pages of both sizes
  moved-where : (memory : Option HugeMemory) (lack : Lack) (state : State) → state.huge ≡ memory
      → (targets moved left more all : ℕ) → more ≡ also_moved from targets memory
      → (small lack state).answer ≡ Replied (reply.Moved moved left) → moved + more ≡ all
      → migrate_where memory from targets (small lack state)
      ≡ with_reply (reply.Moved all left) (record (small lack state).state {
        huge = option_map (huge_followed true from targets) memory;
      })
  moved-where None lack state is targets moved left more all also answers sum =
      let same : (small lack state).state.huge ≡ None =
      changed-huge lack old.core.space.machine state (page.Migrate from to) ∙ is in
      let counts : moved ≡ all = omega (arith, also, sum) in
      let told : small lack state ≡ with_reply (reply.Moved moved left)
      (record (small lack state).state { huge = None }) = λ i. record {
        answer = answers i;
        state = record (small lack state).state { huge = same i };
      } in
      told ∙ ap (λ (n : ℕ). with_reply (reply.Moved n left)
      (record (small lack state).state { huge = None })) counts
  moved-where (Some memory) lack state is targets moved left more all also answers sum =
      let after : State = record (small lack state).state {
        huge = Some (huge_followed true from targets memory);
      } in
      let counts : moved + leave_all from targets memory.pages.spots ≡ all =
      omega (arith, also, sum) in
      ap (λ (a : Answer). migrated_by (shift_told a) from targets memory (small lack state)) answers
      ∙ ap (λ (n : ℕ). with_reply (reply.Moved n left) after) counts

  pub migrate-both : (huge_then : Option HugePages) (moved left targets more all : ℕ)
      → answer ≡ reply.Moved moved left → targets ≡ both to old.core.space.allowed
      → ((memory : Option HugeMemory) → StandsForHuge mid.huge memory
      → StandsForHuge huge_then (option_map (huge_followed true from targets) memory))
      → ((memory : Option HugeMemory) → StandsForHuge mid.huge memory
      → more ≡ also_moved from targets memory)
      → all ≡ min (moved + more) 18446744073709551615
      → Serves old (reply.Moved all left) (record mid { huge = huge_then }) migrates
  migrate-both huge_then moved left targets more all told go follows also sum =
      λ state stands.
      let s = serves state stands in
      let kept : StandsForHuge mid.huge state.huge =
      subst (λ (h : Option HugePages). StandsForHuge h state.huge) (sym same_huge) stands.huge in
      let answers : (small s.0 state).answer ≡ Replied (reply.Moved moved left) =
      s.1 ∙ ap Replied told in
      let few = changed-few s.0 old.core.space.machine state from to moved left answers in
      let gone = also-few from targets state.huge in
      let counts : moved + more ≡ all = omega (arith, sum, few, gone, also state.huge kept) in
      let by : targets ≡ targets_on state =
      go ∙ ap (both to) stands.core.world.space.allowed in
      let after : State = record (small s.0 state).state {
        huge = option_map (huge_followed true from targets) state.huge;
      } in
      served old (record mid { huge = huge_then }) (reply.Moved all left) migrates state after s.0
      (ap (λ (n : ℕ). migrate_where state.huge from n (small s.0 state)) (sym by)
      ∙ moved-where state.huge s.0 state refl targets moved left more all (also state.huge kept)
      answers counts)
      (huge-so mid huge_then (option_map (huge_followed true from targets) state.huge)
      (small s.0 state).state s.2 (follows state.huge kept))

-- ---- move ADDR NODE

moves-none : (answer : Reply) → ((node : ℕ) → answer ≢ reply.MovedTo node)
    → tells_move (Replied answer) ≡ false
moves-none (reply.MovedTo node) other = absurd (other node refl)
moves-none answer other = refl

module _ (old : Running) (address node : ℕ) where
  abbrev pub moves : Lack → Hardware → State → Served
  moves lack machine state = page_outcome lack machine state (page.Move address node)

  abbrev small_move : Lack → State → Served
  small_move lack state = changed lack old.core.space.machine state (page.Move address node)

  -- ---- of a page of 4 KiB

  module _ (mid : Running) (answer : Reply)
      (serves : Serves old answer mid (λ lack machine state.
      changed lack machine state (page.Move address node)))
      (same_huge : mid.huge ≡ old.huge)
      (none_there : (memory : Option HugeMemory) → StandsForHuge old.huge memory
      → is_some (huge_at_address memory address) ≡ false) where
    small-where : (memory : Option HugeMemory) (lack : Lack) (state : State)
        → is_some (huge_at_address memory address) ≡ false
        → state.huge ≡ memory → (rested : Bool) → tells_move (Replied answer) ≡ rested
        → (small_move lack state).answer ≡ Replied answer
        → move_where memory lack old.core.space.machine state address node
        ≡ with_huge (option_map (λ (m : HugeMemory). if rested then huge_rested m else m) memory)
        (small_move lack state)
    small-where None lack state none is rested tells answers =
        ap (λ (h : Option HugeMemory). with_huge h (small_move lack state))
        (changed-huge lack old.core.space.machine state (page.Move address node) ∙ is)
    small-where (Some memory) lack state none is rested tells answers =
        ap (λ (b : Bool). if b
        then huge_move_outcome lack old.core.space.machine state memory address node
        else small_moved memory (small_move lack state)) none
        ∙ ap (λ (b : Bool). with_huge (Some (if b then huge_rested memory else memory))
        (small_move lack state)) (ap tells_move answers ∙ tells)

    small-serves : (huge : Option HugePages) (rested : Bool)
        → tells_move (Replied answer) ≡ rested
        → ((memory : Option HugeMemory) → StandsForHuge mid.huge memory → StandsForHuge huge
        (option_map (λ (m : HugeMemory). if rested then huge_rested m else m) memory))
        → Serves old answer (record mid { huge = huge }) moves
    small-serves huge rested tells goes = λ state stands.
        let s = serves state stands in
        let memory = option_map (λ (m : HugeMemory). if rested then huge_rested m else m)
        state.huge in
        served old (record mid { huge = huge }) answer moves state
        (record (small_move s.0 state).state { huge = memory }) s.0
        (small-where state.huge s.0 state (none_there state.huge stands.huge) refl rested tells s.1
        ∙ ap (λ (a : Answer). record {
          answer = a;
          state = record (small_move s.0 state).state { huge = memory };
        }) s.1)
        (huge-so mid huge memory (small_move s.0 state).state s.2
        (goes state.huge (subst (λ (h : Option HugePages). StandsForHuge h state.huge)
        (sym same_huge) stands.huge)))

    -- it didn't move
    pub small-stayed : ((node : ℕ) → answer ≢ reply.MovedTo node)
        → Serves old answer mid moves
    small-stayed other = small-serves mid.huge false (moves-none answer other)
        (λ memory stands. by memory stands)
      where
        by : (memory : Option HugeMemory) → StandsForHuge mid.huge memory
            → StandsForHuge mid.huge
            (option_map (λ (m : HugeMemory). if false then huge_rested m else m) memory)
        by None stands = stands
        by (Some memory) stands = stands

    -- it moved
    pub small-rested : (huge : Option HugePages)
        → ((memory : Option HugeMemory) → StandsForHuge mid.huge memory
        → StandsForHuge huge (option_map huge_rested memory))
        → (to : ℕ) → answer ≡ reply.MovedTo to
        → Serves old answer (record mid { huge = huge }) moves
    small-rested huge rests to told = small-serves huge true
        (ap (λ (r : Reply). tells_move (Replied r)) told) (λ memory stands. by memory
        (rests memory stands))
      where
        by : (memory : Option HugeMemory) → StandsForHuge huge (option_map huge_rested memory)
            → StandsForHuge huge
            (option_map (λ (m : HugeMemory). if true then huge_rested m else m) memory)
        by None stands = stands
        by (Some memory) stands = stands
