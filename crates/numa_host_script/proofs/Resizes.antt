-- What lines about pools make of a host that answers them.
use Rattle.std.proofs.Common.{◌≡◌, ◌≤◌, ℕ, Bool, true, false, Option, Some, None}
use Rattle.std.proofs.Common.{List, Result, Ok, Err, refl, sym, ap, subst, ◌∙◌}
use Rattle.std.specs.Result.{result_err}
use Rattle.std.specs.Prelude.{if◌then◌else◌, min, nat_le}
use Rattle.numa_machine.specs.Machine.{Hardware}
use Rattle.numa_mode.specs.Policy.{PolicyRecord}
use Rattle.numa_space.specs.Policies.{allowed_nodes, task_record}
use Rattle.numa_space.specs.Standing.{SpaceState, StandsFor}
use Rattle.numa_pools.specs.Pools.{PoolCounts}
use Rattle.numa_pools.specs.Resize.{node_refusal, resized, resized_node}
use Rattle.numa_pools.specs.declared.refusal.PoolRefusal.{PoolRefusal}
use Rattle.numa_pools.specs.declared.refusal.PoolRefusal.TheVariants as pool
use Rattle.numa_requests.specs.declared.command.Command.{Command}
use Rattle.numa_requests.specs.declared.host_command.HostCommand.{HostCommand}
use Rattle.numa_requests.specs.declared.host_refusal.HostRefusal.TheVariants.{NoSuchProcess}
use Rattle.numa_requests.specs.declared.page_refusal.HugeRefusal.TheVariants as because
use Rattle.numa_host.specs.Processes.{commands_of, is_there, members_of}
use Rattle.numa_host.specs.Standing.{HostStandsFor, IsSpaceOf}
use Rattle.numa_page_state.specs.Huge.{resizing_nodes}
use Rattle.numa_page_state.specs.Outcomes.{Enough}
use Rattle.numa_page_state.specs.Pooling.{pool_refusal}
use Rattle.numa_page_state.proofs.Nodes.{none-above}
use Rattle.numa_script.specs.declared.huge_line.HugeLine.{HugeLine}
use Rattle.numa_script.specs.declared.huge_line.HugeLine.TheVariants as huge
use Rattle.numa_script.specs.declared.line.ScriptLine.{ScriptLine}
use Rattle.numa_script.specs.declared.reply.Reply.TheVariants as reply
use Rattle.numa_run.specs.HugeLines.{most_said}
use Rattle.numa_run.specs.PoolTexts.{pools_line}
use Rattle.numa_run.specs.Replies.{Shown}
use Rattle.numa_run.proofs.Resized.{free-of, why-of}
use Rattle.numa_host_huge.specs.Kept.{HugeKept}
use Rattle.numa_host_huge.specs.Sharing.{Sharing, with_pools}
use Rattle.numa_host_huge.specs.Standing.{HugeLies}
use Rattle.numa_host_script.specs.Acting.{reply_taken, taken_by}
use Rattle.numa_host_script.specs.Hosts.{Hosting, HostLack, Outcome, plenty, with_reply}
use Rattle.numa_host_script.specs.Judged.{refused_by}
use Rattle.numa_host_script.specs.Pooling.{allowed_at, huge_there, huge_where, own_huge_outcome}
use Rattle.numa_host_script.specs.Pooling.{refused_for, resize_for_outcome, resize_node_outcome}
use Rattle.numa_host_script.specs.Pooling.{pools_at, resize_outcome, resize_unless}
use Rattle.numa_host_script.specs.Sessions.{host_outcome}
use Rattle.numa_host_script.specs.Standing.{ComesTo, Replies, RunsAs, Takes, hosting_with}
use Rattle.numa_host_script.specs.declared.running.RunningHost.{RunningHost}
use Rattle.numa_host_script.specs.declared.taking.HostTaken.{HostTaken}
use Rattle.numa_host_script.specs.declared.taking.HostTaken.TheVariants as taken
use Rattle.numa_host_script.proofs.Bindings.{alike}
use Rattle.numa_host_script.proofs.Obeyed.{still}
use Rattle.numa_host_script.proofs.Shared.{shared-runs, with_shared}
use Rattle.numa_host_script.proofs.Spaces.{own-space}

-- ---- what was taken

-- what is done as one definition says is done as another, where both say the same
pub comes-by : (old new : RunningHost) (found : HostTaken)
    (outcome other : HostLack → Hosting → Outcome)
    → ((at : Hosting) → RunsAs old at → (lack : HostLack) → other lack at ≡ outcome lack at)
    → ComesTo old found new outcome → ComesTo old found new other
comes-by old new (taken.Reply answer) outcome other is comes = λ at stands.
    let s = comes at stands in
    alike answer new at other s.0 (outcome s.0 at) (is at stands s.0) s.1 s.2
comes-by old new taken.Pools outcome other is comes = λ at stands.
    let s = comes at stands in
    let same = is at stands s.0 in (
      s.0,
      subst (λ (o : Outcome). Shown (pools_line o.lying.huge.pools) ≡ o.answer) (sym same) s.1,
      subst (λ (o : Outcome). RunsAs new (hosting_with at o)) (sym same) s.2,
    )
comes-by old new (taken.Own found) outcome other is comes = absurd comes
comes-by old new (taken.Asked process asked) outcome other is comes = absurd comes
comes-by old new (taken.Listed process task) outcome other is comes = absurd comes
comes-by old new (taken.Moved process) outcome other is comes = absurd comes
comes-by old new taken.MovedAll outcome other is comes = absurd comes
comes-by old new taken.Rooms outcome other is comes = absurd comes
comes-by old new (taken.Arrived process) outcome other is comes = absurd comes

-- the line was taken so
pub comes-taken : (old new : RunningHost) (said : ScriptLine) (found : HostTaken)
    → ((lack : HostLack) (at : Hosting)
    → None ≡ refused_by said.process lack.lacked at said.line)
    → ComesTo old found new (λ lack at. host_outcome lack at said) → Takes old said found new
comes-taken old new said (taken.Reply answer) none comes = comes
comes-taken old new said taken.Pools none comes = λ at stands.
    let s = comes at stands in (s.0, (s.1, none s.0 at), s.2)
comes-taken old new said (taken.Own found) none comes = absurd comes
comes-taken old new said (taken.Asked process asked) none comes = absurd comes
comes-taken old new said (taken.Listed process task) none comes = absurd comes
comes-taken old new said (taken.Moved process) none comes = absurd comes
comes-taken old new said taken.MovedAll none comes = absurd comes
comes-taken old new said taken.Rooms none comes = absurd comes
comes-taken old new said (taken.Arrived process) none comes = absurd comes

-- a reply, or what the pools have, is all that it comes to
pub comes-told : (old new : RunningHost) (found : HostTaken)
    (outcome : HostLack → Hosting → Outcome) → ComesTo old found new outcome
    → ComesTo old (taken_by (reply_taken found)) new outcome
comes-told old new (taken.Reply answer) outcome comes = comes
comes-told old new taken.Pools outcome comes = comes
comes-told old new (taken.Own found) outcome comes = absurd comes
comes-told old new (taken.Asked process asked) outcome comes = absurd comes
comes-told old new (taken.Listed process task) outcome comes = absurd comes
comes-told old new (taken.Moved process) outcome comes = absurd comes
comes-told old new taken.MovedAll outcome comes = absurd comes
comes-told old new taken.Rooms outcome comes = absurd comes
comes-told old new (taken.Arrived process) outcome comes = absurd comes

-- ---- pools that are resized

pub pools-come : (running : RunningHost) (kept : HugeKept) (nodes allowed pages : ℕ)
    → ((at : Sharing) → HugeLies running.pages.huge at
    → HugeLies kept (with_pools (resized nodes allowed pages at.pools) at))
    → ComesTo running taken.Pools (with_shared running kept)
    (λ lack at. resize_outcome nodes allowed pages at)
pools-come running kept nodes allowed pages resizes = λ at stands. (
  plenty,
  refl,
  shared-runs running at kept (with_pools (resized nodes allowed pages (pools_at at))
      at.lying.huge) stands (resizes at.lying.huge stands.lies.huge),
)

module _ (old : RunningHost) (node allowed pages : ℕ) where
  abbrev pub resizes : HostLack → Hosting → Outcome
  resizes lack at = resize_node_outcome node allowed pages at

  abbrev count : ℕ
  count = min pages most_said

  by-refusal : (at : Hosting) → RunsAs old at → (why : Option PoolRefusal)
      → why ≡ node_refusal old.host.blank.machine.nodes old.pages.huge.pools node count
      → resizes plenty at ≡ resize_unless why node allowed count at
  by-refusal at stands why refusal =
      ap (λ (o : Option PoolRefusal). resize_unless o node allowed count at)
      (ap (λ (p : PoolCounts). node_refusal at.machine.nodes p node count)
      (sym stands.lies.huge.pools)
      ∙ ap (λ (m : Hardware). node_refusal m.nodes old.pages.huge.pools node count)
      (sym stands.machine) ∙ sym refusal)

  pub node-refused : (kept : HugeKept) → kept ≡ old.pages.huge → (why : PoolRefusal)
      → Some why ≡ node_refusal old.host.blank.machine.nodes old.pages.huge.pools node
      (min pages most_said)
      → Replies old (reply.HugeRefused (pool_refusal why)) (with_shared old kept) resizes
  node-refused kept same why refusal = λ at stands.
      alike (reply.HugeRefused (pool_refusal why)) (with_shared old kept) at resizes plenty
      (refused_for (pool_refusal why) at) (by-refusal at stands (Some why) refusal) refl
      (subst (λ (k : HugeKept). RunsAs (with_shared old k) at) (sym same) stands)

  pub node-resized : (kept : HugeKept)
      → None ≡ node_refusal old.host.blank.machine.nodes old.pages.huge.pools node
      (min pages most_said)
      → ((at : Sharing) → HugeLies old.pages.huge at → HugeLies kept
      (with_pools (resized_node node allowed (min pages most_said) at.pools) at))
      → ComesTo old taken.Pools (with_shared old kept) resizes
  node-resized kept free resizes_so = λ at stands.
      let after = resized_node node allowed count (pools_at at) in
      let same = by-refusal at stands None free in (
        plenty,
        subst (λ (o : Outcome). Shown (pools_line o.lying.huge.pools) ≡ o.answer) (sym same)
            refl,
        subst (λ (o : Outcome). RunsAs (with_shared old kept) (hosting_with at o)) (sym same)
            (shared-runs old at kept (with_pools after at.lying.huge) stands
            (resizes_so at.lying.huge stands.lies.huge)),
      )

-- what was asked of it, by the number that the line says
module _ (old : RunningHost) (node pages : ℕ) where
  abbrev pub refusal_here : Option PoolRefusal
  refusal_here = node_refusal old.host.blank.machine.nodes old.pages.huge.pools node
      (min pages most_said)

  module _ (nodes small count : ℕ) (many : nodes ≡ old.host.blank.machine.nodes)
      (same : small ≡ node) (is : count ≡ min pages most_said)
      (result : Result (Unit {0}) PoolRefusal)
      (refusal : result_err result ≡ node_refusal nodes old.pages.huge.pools small count) where
    told-here : result_err result ≡ refusal_here
    told-here = refusal ∙ (λ i. node_refusal (many i) old.pages.huge.pools (same i) (is i))

    pub node-free : result ≡ Ok tt → None ≡ refusal_here
    node-free ok = free-of result told-here ok

    pub node-why : (why : PoolRefusal) → result ≡ Err why → Some why ≡ refusal_here
    node-why why err = why-of result why told-here err

-- the machine lacks the node
pub node-none : (old : RunningHost) (nodes node allowed pages : ℕ)
    → nodes ≡ old.host.blank.machine.nodes → nodes ≤ node
    → Replies old (reply.HugeRefused because.NoSuchNode) old (resizes old node allowed pages)
node-none old nodes node allowed pages many far =
    node-refused old node allowed pages old.pages.huge refl pool.NoSuchNode
    (none-above old.pages.huge.pools nodes node (min pages most_said) far
    ∙ ap (λ (n : ℕ). node_refusal n old.pages.huge.pools node (min pages most_said)) many)

-- ---- a line of a process

module _ (old : RunningHost) (process : ℕ) (said : HugeLine) where
  abbrev pub asked_there : HostLack → Hosting → Outcome
  asked_there lack at =
      huge_where (is_there (members_of at.history) process) lack.lacked at process said

  -- nobody is there
  pub huge-nobody : ((history : List HostCommand) → HostStandsFor old.host history
      → is_there (members_of history) process ≡ false)
      → Replies old (reply.HostRefused NoSuchProcess) old asked_there
  huge-nobody nobody = still old (reply.HostRefused NoSuchProcess) asked_there plenty
      (λ at stands. ap (λ (b : Bool). huge_where b Enough at process said)
      (nobody at.history stands.stands))

-- the space of a process that is there
abbrev pub IsSpaceAt : RunningHost → ℕ → SpaceState → Type 0
IsSpaceAt old process space = (history : List HostCommand) → HostStandsFor old.host history
    → (is_there (members_of history) process ≡ true)
    × IsSpaceOf old.host.blank.machine old.host.blank.bounds
    (commands_of old.host.blank.machine history process) space

module _ (old : RunningHost) (process : ℕ) (space : SpaceState)
    (owns : IsSpaceAt old process space) where
  pub own-at : (at : Hosting) → RunsAs old at
      → IsSpaceOf at.machine at.bounds (commands_of at.machine at.history process) space
  own-at at stands = own-space old.host at process space stands.machine stands.bounds
      (owns at.history stands.stands).1

  pub own-allowed : (at : Hosting) → RunsAs old at → space.allowed ≡ allowed_at at process
  own-allowed at stands =
      let own = own-at at stands in
      own.stands.allowed ∙ ap (λ (m : Hardware).
      allowed_nodes m (commands_of at.machine at.history process)) own.machine

  pub own-record : (task : ℕ) (policy : Option PolicyRecord)
      → ((history : List Command) → StandsFor space history
      → policy ≡ task_record space.machine history task)
      → (at : Hosting) → RunsAs old at
      → policy ≡ task_record at.machine (commands_of at.machine at.history process) task
  own-record task policy is at stands =
      let own = own-at at stands in
      is (commands_of at.machine at.history process) own.stands
      ∙ ap (λ (m : Hardware). task_record m (commands_of at.machine at.history process) task)
      own.machine

  pub huge-somebody : (said : HugeLine) (new : RunningHost) (found : HostTaken)
      (outcome : HostLack → Hosting → Outcome)
      → ((at : Hosting) → RunsAs old at → (lack : HostLack)
      → huge_there lack.lacked at process said ≡ outcome lack at)
      → ComesTo old found new outcome
      → ComesTo old found new (λ lack at. huge_where (is_there (members_of at.history) process)
      lack.lacked at process said)
  huge-somebody said new found outcome is comes =
      comes-by old new found outcome (asked_there old process said)
      (λ at stands lack. ap (λ (b : Bool). huge_where b lack.lacked at process said)
      (owns at.history stands.stands).0 ∙ is at stands lack) comes

  -- pool COUNT, pool NODE COUNT
  pub process-resizes : (new : RunningHost) (found : HostTaken) (memory allowed pages : ℕ)
      → memory ≡ space.machine.memory → allowed ≡ space.allowed
      → ComesTo old found new (λ lack at. resize_outcome memory allowed pages at)
      → ComesTo old found new (asked_there old process (huge.Resize pages))
  process-resizes new found memory allowed pages has may =
      huge-somebody (huge.Resize pages) new found
      (λ lack at. resize_outcome memory allowed pages at)
      (λ at stands lack i. resize_outcome
      (sym (has ∙ ap (λ (m : Hardware). m.memory) (own-at at stands).machine) i)
      (sym (may ∙ own-allowed at stands) i) pages at)

  pub process-resizes_node : (new : RunningHost) (found : HostTaken) (node allowed pages : ℕ)
      → allowed ≡ space.allowed
      → ComesTo old found new (λ lack at. resize_node_outcome node allowed pages at)
      → ComesTo old found new (asked_there old process (huge.ResizeNode node pages))
  process-resizes_node new found node allowed pages may =
      huge-somebody (huge.ResizeNode node pages) new found
      (λ lack at. resize_node_outcome node allowed pages at)
      (λ at stands lack i. resize_node_outcome node (sym (may ∙ own-allowed at stands) i) pages at)

  -- pool COUNT TASK CPU
  module _ (pages task cpu : ℕ) where
    abbrev for_cpu : Bool → Hosting → Outcome
    for_cpu far at = if far then refused_for because.BadCpu at
        else resize_outcome (resizing_nodes (task_record at.machine
        (commands_of at.machine at.history process) task) at.machine.memory cpu)
        (allowed_at at process) pages at

    cpu-is : (far : Bool) → nat_le space.machine.nodes cpu ≡ far → (at : Hosting)
        → RunsAs old at → resize_for_outcome pages task cpu at process ≡ for_cpu far at
    cpu-is far is at stands = ap (λ (b : Bool). for_cpu b at)
        (ap (λ (m : Hardware). nat_le m.nodes cpu) (sym (own-at at stands).machine) ∙ is)

    pub for-nowhere : nat_le space.machine.nodes cpu ≡ true
        → Replies old (reply.HugeRefused because.BadCpu) old
        (asked_there old process (huge.ResizeFor pages task cpu))
    for-nowhere far = still old (reply.HugeRefused because.BadCpu)
        (asked_there old process (huge.ResizeFor pages task cpu)) plenty
        (λ at stands. ap (λ (b : Bool). huge_where b Enough at process
        (huge.ResizeFor pages task cpu)) (owns at.history stands.stands).0
        ∙ cpu-is true far at stands)

    pub for-resized : (new : RunningHost) (found : HostTaken) (policy : Option PolicyRecord)
        (memory nodes allowed : ℕ) → nat_le space.machine.nodes cpu ≡ false
        → ((history : List Command) → StandsFor space history
        → policy ≡ task_record space.machine history task)
        → memory ≡ space.machine.memory → nodes ≡ resizing_nodes policy memory cpu
        → allowed ≡ space.allowed
        → ComesTo old found new (λ lack at. resize_outcome nodes allowed pages at)
        → ComesTo old found new (asked_there old process (huge.ResizeFor pages task cpu))
    for-resized new found policy memory nodes allowed near record_is has are may =
        huge-somebody (huge.ResizeFor pages task cpu) new found
        (λ lack at. resize_outcome nodes allowed pages at)
        (λ at stands lack. cpu-is false near at stands ∙ (λ i. resize_outcome
        (sym (are ∙ (λ j. resizing_nodes (own-record task policy record_is at stands j)
        ((has ∙ ap (λ (m : Hardware). m.memory) (own-at at stands).machine) j) cpu)) i)
        (sym (may ∙ own-allowed at stands) i) pages at))

-- ---- a line that no process is told

own-other : (said : HugeLine) → (said ≡ huge.Pools → ⊥)
    → ((pages : ℕ) → said ≡ huge.Resize pages → ⊥)
    → ((node pages : ℕ) → said ≡ huge.ResizeNode node pages → ⊥) → (at : Hosting)
    → own_huge_outcome at said ≡ with_reply reply.BadState at
own-other huge.Pools shown resized_all resized_one at = absurd (shown refl)
own-other (huge.Resize pages) shown resized_all resized_one at = absurd (resized_all pages refl)
own-other (huge.ResizeNode node pages) shown resized_all resized_one at =
    absurd (resized_one node pages refl)
own-other (huge.ResizeFor pages task cpu) shown resized_all resized_one at = refl
own-other (huge.Map start bytes offset task reserves) shown resized_all resized_one at = refl
own-other (huge.Fault task address cpu) shown resized_all resized_one at = refl

pub own-nothing : (running : RunningHost) (said : HugeLine) → (said ≡ huge.Pools → ⊥)
    → ((pages : ℕ) → said ≡ huge.Resize pages → ⊥)
    → ((node pages : ℕ) → said ≡ huge.ResizeNode node pages → ⊥)
    → ComesTo running (taken.Reply reply.BadState) running (λ lack at. own_huge_outcome at said)
own-nothing running said shown resized_all resized_one =
    still running reply.BadState (λ lack at. own_huge_outcome at said) plenty
    (λ at stands. own-other said shown resized_all resized_one at)

pub own-pools : (running : RunningHost)
    → ComesTo running taken.Pools running (λ lack at. own_huge_outcome at huge.Pools)
own-pools running = λ at stands. (plenty, refl, stands)

-- who writes is allowed all nodes with memory
pub own-resizes : (old new : RunningHost) (found : HostTaken) (memory pages : ℕ)
    → memory ≡ old.host.blank.machine.memory
    → ComesTo old found new (λ lack at. resize_outcome memory memory pages at)
    → ComesTo old found new (λ lack at. own_huge_outcome at (huge.Resize pages))
own-resizes old new found memory pages has comes =
    comes-by old new found (λ lack at. resize_outcome memory memory pages at)
    (λ lack at. own_huge_outcome at (huge.Resize pages))
    (λ at stands lack i. resize_outcome
    (sym (has ∙ ap (λ (m : Hardware). m.memory) stands.machine) i)
    (sym (has ∙ ap (λ (m : Hardware). m.memory) stands.machine) i) pages at) comes

pub own-resizes_node : (old new : RunningHost) (found : HostTaken) (memory node pages : ℕ)
    → memory ≡ old.host.blank.machine.memory
    → ComesTo old found new (λ lack at. resize_node_outcome node memory pages at)
    → ComesTo old found new (λ lack at. own_huge_outcome at (huge.ResizeNode node pages))
own-resizes_node old new found memory node pages has comes =
    comes-by old new found (λ lack at. resize_node_outcome node memory pages at)
    (λ lack at. own_huge_outcome at (huge.ResizeNode node pages))
    (λ at stands lack i. resize_node_outcome node
    (sym (has ∙ ap (λ (m : Hardware). m.memory) stands.machine) i) pages at) comes
