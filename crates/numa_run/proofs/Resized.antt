-- What lines that resize pools make of a running machine.
use Rattle.std.proofs.Common.{◌≡◌, ℕ, Bool, true, false, Option, Some, None, Result}
use Rattle.std.proofs.Common.{List, Ok, Err, sym, ap, subst, ◌∙◌}
use Rattle.std.specs.Prelude.{if◌then◌else◌, nat_le}
use Rattle.std.specs.Result.{result_err}
use Rattle.numa_machine.specs.Machine.{Hardware}
use Rattle.numa_mode.specs.Policy.{PolicyRecord}
use Rattle.numa_requests.specs.declared.command.Command.{Command}
use Rattle.numa_space.specs.Policies.{task_record}
use Rattle.numa_space.specs.Standing.{StandsFor}
use Rattle.numa_pools.specs.Pools.{PoolCounts}
use Rattle.numa_pools.specs.Resize.{node_refusal, resized_node}
use Rattle.numa_pools.specs.declared.refusal.PoolRefusal.{PoolRefusal}
use Rattle.numa_huge.specs.Huge.{HugeLying}
use Rattle.numa_huge.specs.declared.pages.HugePages.{HugePages}
use Rattle.numa_page_state.specs.Huge.{resizing_nodes}
use Rattle.numa_page_state.specs.Outcomes.{Enough, Lack}
use Rattle.numa_page_state.specs.Pooling.{pool_refusal}
use Rattle.numa_requests.specs.declared.page_refusal.HugeRefusal.TheVariants as because
use Rattle.numa_script.specs.declared.reply.Reply.TheVariants as reply
use Rattle.numa_run.specs.Answering.{Served, Shown}
use Rattle.numa_run.specs.HugeLines.{pools_on, refused_for, resize_for_outcome, resize_outcome}
use Rattle.numa_run.specs.HugeLines.{resize_unless}
use Rattle.numa_run.specs.PageLines.{arrived_text}
use Rattle.numa_run.specs.PoolTexts.{pools_line}
use Rattle.numa_run.specs.Standing.{ComesTo, RunsAs, Serves, Shows}
use Rattle.numa_run.specs.States.{State}
use Rattle.numa_run.specs.declared.running.Running.{Running}
use Rattle.numa_run.specs.declared.running.Taken.{Taken}
use Rattle.numa_run.specs.declared.running.Taken.TheVariants as taken
use Rattle.numa_run.proofs.Accepting.{served, serves-by}
use Rattle.numa_run.proofs.Keeping.{kept-memory, pools-so}

shows-by : (old new : Running) (serve other : Lack → Hardware → State → Served)
    (text : Hardware → State → List ℕ)
    → ((state : State) → RunsAs old state → (lack : Lack)
    → other lack old.core.space.machine state ≡ serve lack old.core.space.machine state)
    → Shows old new serve text → Shows old new other text
shows-by old new serve other text is shows = λ state stands.
    let s = shows state stands in
    let same = is state stands s.0 in (
      s.0,
      ap (λ (r : Served). r.answer) same ∙ s.1
          ∙ ap (λ (r : Served). Shown (text new.core.space.machine r.state)) (sym same),
      subst (λ (r : Served). RunsAs new r.state) (sym same) s.2,
    )

-- what is done as one definition says is done as another, where both say the same
pub comes-by : (old new : Running) (found : Taken) (serve other : Lack → Hardware → State → Served)
    → ((state : State) → RunsAs old state → (lack : Lack)
    → other lack old.core.space.machine state ≡ serve lack old.core.space.machine state)
    → ComesTo old found new serve → ComesTo old found new other
comes-by old new (taken.Reply answer) serve other is comes =
    serves-by old new answer serve other is comes
comes-by old new taken.Arrived serve other is comes =
    shows-by old new serve other (λ machine state. arrived_text state) is comes
comes-by old new taken.Pools serve other is comes =
    shows-by old new serve other (λ machine state. pools_line (pools_on machine state)) is comes
comes-by old new (taken.Question asked) serve other is comes = absurd comes
comes-by old new (taken.Maps task) serve other is comes = absurd comes
comes-by old new taken.Moved serve other is comes = absurd comes
comes-by old new taken.Rooms serve other is comes = absurd comes

-- ---- one node

-- what a call tells of it
pub free-of : {refusal : Option PoolRefusal} (result : Result (Unit {0}) PoolRefusal)
    → result_err result ≡ refusal → result ≡ Ok tt → None ≡ refusal
free-of result told ok = ap result_err (sym ok) ∙ told

pub why-of : {refusal : Option PoolRefusal} (result : Result (Unit {0}) PoolRefusal)
    (why : PoolRefusal) → result_err result ≡ refusal → result ≡ Err why → Some why ≡ refusal
why-of result why told err = ap result_err (sym err) ∙ told

module _ (old : Running) (kept : HugePages) (is : old.huge ≡ Some kept) (node pages : ℕ) where
  abbrev pub resizes : Lack → Hardware → State → Served
  resizes lack machine state = resize_unless
      (node_refusal machine.nodes (pools_on machine state) node pages) machine node pages state

  abbrev pub refusal_kept : Option PoolRefusal
  refusal_kept = node_refusal old.core.space.machine.nodes kept.places.pools node pages

  -- what a call tells that was asked for a machine of so many nodes
  pub told-kept : (nodes : ℕ) → nodes ≡ old.core.space.machine.nodes
      → (result : Result (Unit {0}) PoolRefusal)
      → result_err result ≡ node_refusal nodes kept.places.pools node pages
      → result_err result ≡ refusal_kept
  told-kept nodes same result told =
      told ∙ ap (λ (n : ℕ). node_refusal n kept.places.pools node pages) same

  same-pools : (state : State) → RunsAs old state
      → pools_on old.core.space.machine state ≡ kept.places.pools
  same-pools state stands =
      ap (λ (p : HugeLying). p.pools) (sym (kept-memory old kept is state stands).pages)

  by-refusal : (state : State) → RunsAs old state → (why : Option PoolRefusal)
      → why ≡ refusal_kept
      → resizes Enough old.core.space.machine state
      ≡ resize_unless why old.core.space.machine node pages state
  by-refusal state stands why refusal =
      ap (λ (o : Option PoolRefusal).
      resize_unless o old.core.space.machine node pages state)
      (ap (λ (p : PoolCounts). node_refusal old.core.space.machine.nodes p node pages)
      (same-pools state stands)
      ∙ sym refusal)

  pub node-refused : (kept_then : HugePages) → kept_then ≡ kept → (why : PoolRefusal)
      → Some why ≡ refusal_kept
      → Serves old (reply.HugeRefused (pool_refusal why)) (record old { huge = Some kept_then })
      resizes
  node-refused kept_then same why refusal = λ state stands.
      served old (record old { huge = Some kept_then }) (reply.HugeRefused (pool_refusal why))
      resizes state state Enough (by-refusal state stands (Some why) refusal)
      (subst (λ (h : Option HugePages). RunsAs (record old { huge = h }) state)
      (is ∙ ap Some (sym same)) stands)

  pub node-resized : (kept_then : HugePages) (allowed : ℕ) → allowed ≡ old.core.space.allowed
      → None ≡ refusal_kept
      → kept_then ≡ record kept { places = kept_then.places }
      → kept_then.places.pools ≡ resized_node node allowed pages kept.places.pools
      → kept_then.places.runs ≡ kept.places.runs
      → Shows old (record old { huge = Some kept_then }) resizes
      (λ machine state. pools_line (pools_on machine state))
  node-resized kept_then allowed from free rest pools runs = λ state stands.
      let done = by-refusal state stands None free in
      let so = pools-so old kept is state stands kept_then (λ (nodes : ℕ) (p : PoolCounts).
      resized_node node nodes pages p) allowed from rest pools runs in (
        Enough,
        ap (λ (s : Served). s.answer) done
            ∙ ap (λ (s : Served). Shown (pools_line (pools_on old.core.space.machine s.state)))
            (sym done),
        subst (λ (s : Served). RunsAs (record old { huge = Some kept_then }) s.state) (sym done)
            so,
      )

-- ---- the nodes of a task's policy

module _ (old : Running) (pages task cpu : ℕ) where
  abbrev pub resizes_for : Lack → Hardware → State → Served
  resizes_for lack machine state = resize_for_outcome machine pages task cpu state

  pub for-nowhere : nat_le old.core.space.machine.nodes cpu ≡ true
      → Serves old (reply.HugeRefused because.BadCpu) old resizes_for
  for-nowhere far = λ state stands.
      served old old (reply.HugeRefused because.BadCpu) resizes_for state state Enough
      (ap (λ (b : Bool). if b then refused_for because.BadCpu state
      else resize_outcome old.core.space.machine (resizing_nodes (task_record
      old.core.space.machine state.world.history task) old.core.space.machine.memory cpu) pages
      state) far) stands

  module _ (policy : Option PolicyRecord) (nodes : ℕ)
      (record_is : (history : List Command) → StandsFor old.core.space history
      → policy ≡ task_record old.core.space.machine history task)
      (are : nodes ≡ resizing_nodes policy old.core.space.machine.memory cpu)
      (near : nat_le old.core.space.machine.nodes cpu ≡ false) where
    for-is : (lack : Lack) (state : State) → RunsAs old state
        → resizes_for lack old.core.space.machine state
        ≡ resize_outcome old.core.space.machine nodes pages state
    for-is lack state stands =
        ap (λ (b : Bool). if b then refused_for because.BadCpu state
        else resize_outcome old.core.space.machine (resizing_nodes (task_record
        old.core.space.machine state.world.history task) old.core.space.machine.memory cpu) pages
        state) near
        ∙ ap (λ (n : ℕ). resize_outcome old.core.space.machine n pages state)
        (ap (λ (p : Option PolicyRecord).
        resizing_nodes p old.core.space.machine.memory cpu)
        (sym (record_is state.world.history stands.core.world.space)) ∙ sym are)

    pub for-resized : (new : Running) (found : Taken)
        → ComesTo old found new (λ lack machine state. resize_outcome machine nodes pages state)
        → ComesTo old found new resizes_for
    for-resized new found = comes-by old new found
        (λ lack machine state. resize_outcome machine nodes pages state) resizes_for
        (λ state stands lack. for-is lack state stands)
