-- What a first touch of a page makes of a host that answers it.
use Rattle.std.proofs.Common.{◌≡◌, ◌≢◌, ℕ, Bool, true, false, Option, Some, None, Result, Err}
use Rattle.std.proofs.Common.{List, [], length, refl, sym, ap, subst, ◌∙◌, inl, inr, is_some}
use Rattle.std.proofs.lemmas.Bool.{both_ways, cases_Bool}
use Rattle.std.specs.Prelude.{◌&&◌, if◌then◌else◌, not}
use Rattle.numa_machine.specs.Machine.{Hardware}
use Rattle.numa_machine.specs.declared.refusal.PlaceRefusal.{PlaceRefusal}
use Rattle.numa_space.specs.History.{page_of}
use Rattle.numa_space.specs.Lists.{node_list}
use Rattle.numa_space.specs.Standing.{SpaceState, StandsFor, place_refusal_of}
use Rattle.numa_requests.specs.declared.command.Command.{Command}
use Rattle.numa_requests.specs.declared.host_command.HostCommand.{HostCommand}
use Rattle.numa_requests.specs.declared.page_refusal.HugeRefusal.TheVariants as because
use Rattle.numa_requests.specs.declared.page_refusal.PlacedRefusal.{PlacedRefusal}
use Rattle.numa_requests.specs.declared.page_refusal.PlacedRefusal.TheVariants as cause
use Rattle.numa_host.specs.Processes.{commands_of}
use Rattle.numa_huge.specs.Moves.{HugeMemory}
use Rattle.numa_host_huge.specs.Kept.{HugeKept}
use Rattle.numa_host_huge.specs.Sharing.{Sharing, begun, begun_in, memory_in}
use Rattle.numa_host_huge.specs.Sharing.{given_back as huge_back}
use Rattle.numa_host_huge.specs.Standing.{FaultsIn, HugeLies}
use Rattle.numa_host_pages.specs.Homes.{HostLying, given_back, lent, lent_or_new, pages_in}
use Rattle.numa_host_pages.specs.Homes.{pages_lent}
use Rattle.numa_host_pages.specs.Standing.{AreOf, HostLies}
use Rattle.numa_host_pages.specs.declared.pages.HostPages.{HostPages}
use Rattle.numa_page_state.specs.Huge.{fault_outcome, huge_at_address, huge_fault, huge_page}
use Rattle.numa_page_state.specs.Lying.{Ground, Lying, ground_in, nothing}
use Rattle.numa_page_state.specs.Outcomes.{Enough, Lack, Starved, is_starved}
use Rattle.numa_page_state.specs.Pooling.{place_cause}
use Rattle.numa_page_state.specs.Standing.{DoesAs, LiesAs}
use Rattle.numa_page_state.specs.declared.state.PageState.{PageState}
use Rattle.numa_script.specs.declared.huge_line.HugeLine.TheVariants as huge
use Rattle.numa_script.specs.declared.reply.Reply.{Reply}
use Rattle.numa_script.specs.declared.reply.Reply.TheVariants as reply
use Rattle.numa_run.specs.HugeLines.{fault_reply}
use Rattle.numa_run.specs.Replies.{reply_in}
use Rattle.numa_host_script.specs.Hosts.{Hosting, HostLack, Outcome, plenty}
use Rattle.numa_host_script.specs.Paging.{memory_at, told_by}
use Rattle.numa_host_script.specs.Pooling.{fault_unless, fault_where, faulted_with, huge_faulted}
use Rattle.numa_host_script.specs.Pooling.{huge_where, small_fault_outcome, small_faulted}
use Rattle.numa_host_script.specs.Pooling.{with_faulted}
use Rattle.numa_host_script.specs.Standing.{FaultsSo, Replies, RunsAs}
use Rattle.numa_host_script.specs.declared.running.RunningHost.{RunningHost}
use Rattle.numa_host_script.proofs.Acted.{begins}
use Rattle.numa_host_script.proofs.Bindings.{alike}
use Rattle.numa_host_script.proofs.Lent.{given-are}
use Rattle.numa_host_script.proofs.Obeyed.{still}
use Rattle.numa_host_script.proofs.Resizes.{IsSpaceAt, asked_there, own-at}
use Rattle.numa_host_script.proofs.Shared.{shared-runs, with_shared}
use Rattle.numa_host_script.proofs.Spaces.{same-ground}
use Rattle.numa_host_script.proofs.Unmapped.{flag}

-- ---- a page of 4 KiB

module _ (state new : PageState) (result : Result (Option ℕ) PlacedRefusal) (pages : HostPages)
    (process task address cpu : ℕ) (basis : Ground) (at : HostLying)
    (does : DoesAs state result new (Err cause.NoMemory)
    (λ lacked l. fault_outcome lacked basis task address cpu l))
    (gives : (done : Lying) → LiesAs new done → HostLies pages (given_back process done at)) where
  -- what it comes to, by the pages that the process has
  abbrev by_had : Lack → Option Lying → Option Reply × HostLying
  by_had lacked had = if not (is_some had) && is_starved lacked
      then (Some (reply.HugeRefused because.NoMemory), at)
      else faulted_with (fault_outcome lacked basis task address cpu
      (record (lent_or_new at.room at.follows had) { begun = true })) process at

  abbrev pub FaultsAt : Type 0
  FaultsAt = (lacked : Lack) × FaultsSo (small_faulted lacked basis process task address cpu at)
      (fault_reply because.Exhausted result) pages

  faulted-by : (lacked : Lack) (had : Option Lying) → pages_in process at.homes ≡ had
      → FaultsSo (by_had lacked had) (fault_reply because.Exhausted result) pages → FaultsAt
  faulted-by lacked had is so = (
    lacked,
    subst (λ (o : Option Lying).
        FaultsSo (by_had lacked o) (fault_reply because.Exhausted result) pages) (sym is) so,
  )

  -- pages that the process had
  pub faulted-lent : (lying : Lying) → pages_in process at.homes ≡ Some lying
      → LiesAs state (lent at.room at.follows lying) → FaultsAt
  faulted-lent lying is has =
      let from : Lying = lent at.room at.follows lying in
      let d = does (record from { begun = true }) (begins state from has) in
      faulted-by d.0 (Some lying) is (
        ap (λ (r : Result (Option ℕ) PlacedRefusal). Some (fault_reply because.Exhausted r)) d.2,
        gives (fault_outcome d.0 basis task address cpu (record from { begun = true })).1 d.1,
      )

  -- its first ones, where memory doesn't lack
  pub faulted-first : pages_in process at.homes ≡ None
      → LiesAs state (lent at.room at.follows nothing) → result ≢ Err cause.NoMemory → FaultsAt
  faulted-first none has serves =
      let from : Lying = lent at.room at.follows nothing in
      let d = does (record from { begun = true }) (begins state from has) in
      let done = fault_outcome d.0 basis task address cpu (record from { begun = true }) in
      let by : Bool → Option Reply × HostLying = λ b.
      if b then (Some (reply.HugeRefused because.NoMemory), at)
      else faulted_with done process at in
      elim (cases_Bool (is_starved d.0)) [
        | inl t ↦ absurd (serves (d.3 t).1)
        | inr e ↦ faulted-by d.0 None none (subst (λ (b : Bool).
            FaultsSo (by b) (fault_reply because.Exhausted result) pages) (sym e) (
              ap (λ (r : Result (Option ℕ) PlacedRefusal).
                  Some (fault_reply because.Exhausted r)) d.2,
              gives done.1 d.1,
            ))
      ]

-- memory lacks for its first ones
pub faulted-starved : (pages : HostPages) (process task address cpu : ℕ) (basis : Ground)
    (at : HostLying) → pages_in process at.homes ≡ None → HostLies pages at
    → (lacked : Lack) × FaultsSo (small_faulted lacked basis process task address cpu at)
    (reply.HugeRefused because.NoMemory) pages
faulted-starved pages process task address cpu basis at none lies = (
  Starved,
  subst (λ (had : Option Lying). FaultsSo (if not (is_some had) && true
      then (Some (reply.HugeRefused because.NoMemory), at)
      else faulted_with (fault_outcome Starved basis task address cpu
      (record (lent_or_new at.room at.follows had) { begun = true })) process at)
      (reply.HugeRefused because.NoMemory) pages) (sym none) (refl, lies),
)

-- the processes stay
faulted-are : (lacked : Lack) (basis : Ground) (process task address cpu : ℕ) (at : HostLying)
    (history : List HostCommand) → AreOf at history
    → AreOf (small_faulted lacked basis process task address cpu at).1 history
faulted-are lacked basis process task address cpu at history are =
    let from : Lying = record (pages_lent process at) { begun = true } in
    let test : Bool = not (is_some (pages_in process at.homes)) && is_starved lacked in
    elim (cases_Bool test) [
      | inl t ↦ rw t are
      | inr e ↦ rw e (given-are process
          (fault_outcome lacked basis task address cpu from).1 at history are)
    ]

-- ---- a page of any size

module _ (old : RunningHost) (process : ℕ) (space : SpaceState)
    (owns : IsSpaceAt old process space) (task address cpu : ℕ) where
  abbrev pub faults : HostLack → Hosting → Outcome
  faults lack at = asked_there old process (huge.Fault task address cpu) lack at

  abbrev by_refusal : Option PlaceRefusal → Lack → Hosting → Outcome
  by_refusal why lacked at = fault_unless why lacked at process task address cpu

  faults-is : (why : Option PlaceRefusal) (lacked : Lack) (at : Hosting) → RunsAs old at
      → place_refusal_of space.machine (commands_of at.machine at.history process)
      (page_of address) cpu ≡ why
      → faults (flag lacked) at ≡ by_refusal why lacked at
  faults-is why lacked at stands is =
      ap (λ (b : Bool). huge_where b lacked at process (huge.Fault task address cpu))
      (owns at.history stands.stands).0
      ∙ ap (λ (o : Option PlaceRefusal). by_refusal o lacked at)
      (ap (λ (m : Hardware). place_refusal_of m (commands_of at.machine at.history process)
      (page_of address) cpu) (sym (own-at old process space owns at stands).machine) ∙ is)

  -- it has no list of nodes
  pub fault-refused : (why : PlaceRefusal)
      → ((history : List Command) → StandsFor space history
      → place_refusal_of space.machine history (page_of address) cpu ≡ Some why)
      → Replies old (reply.HugeRefused (place_cause why)) old faults
  fault-refused why refuses = still old (reply.HugeRefused (place_cause why)) faults plenty
      (λ at stands. faults-is (Some why) Enough at stands
      (refuses (commands_of at.machine at.history process)
      (own-at old process space owns at stands).stands))

  module _ (nodes : List ℕ)
      (tells : (history : List Command) → StandsFor space history
      → (place_refusal_of space.machine history (page_of address) cpu ≡ None)
      × (nodes ≡ node_list space.machine history task (page_of address) cpu))
      (found : Bool)
      (is : (at : Sharing) → HugeLies old.pages.huge at
      → found ≡ is_some (huge_at_address (memory_in process at) address)) where
    tells-at : (at : Hosting) → RunsAs old at
        → (place_refusal_of space.machine (commands_of at.machine at.history process)
        (page_of address) cpu ≡ None)
        × (nodes ≡ node_list space.machine (commands_of at.machine at.history process) task
        (page_of address) cpu)
    tells-at at stands = tells (commands_of at.machine at.history process)
        (own-at old process space owns at stands).stands

    nodes-at : (at : Hosting) → RunsAs old at
        → node_list at.machine (commands_of at.machine at.history process) task
        (page_of address) cpu ≡ nodes
    nodes-at at stands = sym ((tells-at at stands).1 ∙ ap (λ (m : Hardware).
        node_list m (commands_of at.machine at.history process) task (page_of address) cpu)
        (own-at old process space owns at stands).machine)

    -- by the size of the page
    small-is : (memory : Option HugeMemory) (lacked : Lack) (at : Hosting)
        → is_some (huge_at_address memory address) ≡ false
        → fault_where memory lacked at process task address cpu
        ≡ small_fault_outcome lacked at process task address cpu
    small-is None lacked at small = refl
    small-is (Some memory) lacked at small = rw small refl

    huge-is : (memory : Option HugeMemory) (lacked : Lack) (at : Hosting)
        → is_some (huge_at_address memory address) ≡ true
        → fault_where memory lacked at process task address cpu
        ≡ huge_faulted (huge_fault lacked (huge_page address) (node_list at.machine
        (commands_of at.machine at.history process) task (page_of address) cpu)
        (begun at.lying.huge.pools memory).pages) (begun at.lying.huge.pools memory) at process
    huge-is None lacked at size = absurd (both_ways false refl size)
    huge-is (Some memory) lacked at size = rw size refl

    pub fault-small : found ≡ false → (answer : Reply) (pages : HostPages)
        → ((at : HostLying) → HostLies old.pages at → (lacked : Lack)
        × FaultsSo (small_faulted lacked (ground_in space []) process task address cpu at) answer
        pages)
        → Replies old answer (record { host = old.host; pages = pages }) faults
    fault-small small answer pages touches = λ at stands.
        let d = touches at.lying stands.lies in
        let own = owns at.history stands.stands in
        let done = small_faulted d.0 (ground_in space []) process task address cpu at.lying in
        let basis = same-ground old.host at process space stands.machine stands.bounds own.1 in
        let so : faults (flag d.0) at ≡ with_faulted done at process =
        faults-is None d.0 at stands (tells-at at stands).0
        ∙ small-is (memory_at at process) d.0 at
        (sym (is at.lying.huge stands.lies.huge) ∙ small)
        ∙ ap (λ (g : Ground). with_faulted (small_faulted d.0 g process task address cpu at.lying)
        at process) (sym basis) in
        let are = faulted-are d.0 (ground_in space []) process task address cpu at.lying at.history
        stands.are in
        alike answer (record { host = old.host; pages = pages }) at faults (flag d.0)
        (with_faulted done at process) so
        (ap (λ (o : Option Reply). reply_in (told_by o (length at.history) process done.1))
        (sym d.1.0)) (record {
          machine = stands.machine;
          bounds = stands.bounds;
          stands = stands.stands;
          lies = d.1.1;
          are = are;
        })

    pub fault-huge : found ≡ true → (result : Result (Option ℕ) PlacedRefusal)
        (kept : HugeKept)
        → FaultsIn process old.pages.huge result kept (huge_page address) nodes
        → Replies old (fault_reply because.Killed result) (with_shared old kept) faults
    fault-huge size result kept touches = λ at stands.
        let d = touches at.lying.huge stands.lies.huge in
        let memory : HugeMemory = begun_in process at.lying.huge in
        let done = huge_fault d.0 (huge_page address) nodes memory.pages in
        let so : faults (flag d.0) at ≡ huge_faulted done memory at process =
        faults-is None d.0 at stands (tells-at at stands).0
        ∙ huge-is (memory_at at process) d.0 at
        (sym (is at.lying.huge stands.lies.huge) ∙ size)
        ∙ ap (λ (ns : List ℕ). huge_faulted (huge_fault d.0 (huge_page address) ns memory.pages)
        memory at process) (nodes-at at stands) in
        alike (fault_reply because.Killed result) (with_shared old kept) at faults (flag d.0)
        (huge_faulted done memory at process) so
        (ap (λ (r : Result (Option ℕ) PlacedRefusal). Some (fault_reply because.Killed r))
        (sym d.1))
        (shared-runs old at kept
        (huge_back process (record memory { pages = done.1 }) at.lying.huge) stands d.2)
