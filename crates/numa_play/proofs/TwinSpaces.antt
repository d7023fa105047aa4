-- Two machines that differ in their rules make the same of commands, while none changes the allowed
-- nodes.
use Rattle.std.proofs.Common.{◌≡◌, ℕ, zero, suc, ◌&&◌, true, false, not, Option, Some, None}
use Rattle.std.proofs.Common.{List, [], ◌∷◌, ◌++◌, refl, sym, ap, ◌∙◌, subst}
use Rattle.std.specs.Prelude.{filter, fold, if◌then◌else◌, is_some, slice_index, unwrap_or}
use Rattle.numa_mask.specs.NodeSet.{both, has, members}
use Rattle.numa_machine.specs.Machine.{Hardware, cost_under, distance, fallback_order, kernel_cost}
use Rattle.numa_machine.specs.Machine.{loads_before, one_more_at, order_by, turns}
use Rattle.numa_machine.specs.Rules.{is_linux}
use Rattle.numa_machine.specs.Sizes.{turn_at}
use Rattle.numa_machine.specs.Weights.{interleave_node, weighted_node}
use Rattle.numa_machine.specs.declared.fallback.Fallback.{Fallback}
use Rattle.numa_machine.specs.declared.fallback.Fallback.TheVariants.{Nearest, Kernel}
use Rattle.numa_machine.specs.declared.rules.Rules.{Rules}
use Rattle.numa_machine.specs.declared.rules.Rules.TheVariants.{Document, Linux}
use Rattle.numa_mode.specs.Policy.{PolicyRecord}
use Rattle.numa_mode.specs.declared.modes.Mode.{Mode}
use Rattle.numa_mode.specs.declared.modes.Mode.TheVariants as mode
use Rattle.numa_ranges.specs.Runs.{page_at}
use Rattle.numa_requests.specs.declared.command.Command.{Command}
use Rattle.numa_requests.specs.declared.command.Command.TheVariants as command
use Rattle.numa_space.specs.Limited.{Bounds}
use Rattle.numa_space.specs.Lists.{Setting, list_by_mode, list_for, near, node_list, usable, within}
use Rattle.numa_space.specs.Pages.{index_of, page_in, policy_of_range, resolved_policy}
use Rattle.numa_space.specs.Policies.{allowed_nodes, node_weight, policy_that_counts, task_record}
use Rattle.numa_space.specs.Refusals.{refusal_in, refusal_of}
use Rattle.numa_space.specs.Standing.{SpaceState, StandsFor, place_refusal_of, record_of}
use Rattle.numa_space.specs.Steps.{pages_next, task_next}
use Rattle.numa_space.proofs.Pages.{pages-next}
use Rattle.numa_space.proofs.Tasks.{task-next}
use Rattle.numa_rules.specs.Both.{IsAnsweredAlike, refusal_by}
use Rattle.numa_rules.specs.Others.{IsSameThere, other_rules, set_for}
use Rattle.numa_rules.specs.Otherwise.{otherwise_of}
use Rattle.numa_rules.proofs.Alike.{same-answer}
use Rattle.numa_core.specs.Standing.{CoreState}
use Rattle.numa_run.specs.Scripts.{IsCoreIn}
use Rattle.numa_run.specs.States.{State}
use Rattle.numa_play.specs.Twins.{IsRefusedAlike, KeepNodes, keeps_nodes, turned_machine}

-- ---- what commands make

allowed-alike : (machine : Hardware) (history : List Command) → KeepNodes history
    → allowed_nodes machine history ≡ allowed_nodes (turned_machine machine) history
allowed-alike machine [] keep = refl
allowed-alike machine (command.Map start bytes offset size ∷ history) keep =
    allowed-alike machine history keep.1
allowed-alike machine (command.Unmap start bytes ∷ history) keep =
    allowed-alike machine history keep.1
allowed-alike machine (command.Mbind start bytes spec ∷ history) keep =
    allowed-alike machine history keep.1
allowed-alike machine (command.SetTask task spec ∷ history) keep =
    allowed-alike machine history keep.1
allowed-alike machine (command.Inherit heir from ∷ history) keep =
    allowed-alike machine history keep.1
allowed-alike machine (command.SetHome start bytes node ∷ history) keep =
    allowed-alike machine history keep.1
allowed-alike machine (command.SetWeight node weight ∷ history) keep =
    allowed-alike machine history keep.1
allowed-alike machine (command.SetMems mask ∷ history) keep =
    let wrong = keep.0 in absurd (cc)

-- one step from the same pages, and from the same tasks
step-pages : (machine : Hardware) (allowed other : ℕ)
    (pages others : ℕ → Option (ℕ × Option PolicyRecord)) (asked : Command)
    → keeps_nodes asked ≡ true
    → allowed ≡ other → pages ≡ others → (page : ℕ) → pages_next machine allowed pages asked page
    ≡ pages_next (turned_machine machine) other others asked page
step-pages machine allowed other pages others (command.Map start bytes offset size) keeps a p page =
    λ i. pages_next machine (a i) (p i) (command.Map start bytes offset size) page
step-pages machine allowed other pages others (command.Unmap start bytes) keeps a p page =
    λ i. pages_next machine (a i) (p i) (command.Unmap start bytes) page
step-pages machine allowed other pages others (command.Mbind start bytes spec) keeps a p page =
    λ i. pages_next machine (a i) (p i) (command.Mbind start bytes spec) page
step-pages machine allowed other pages others (command.SetTask task spec) keeps a p page =
    λ i. p i page
step-pages machine allowed other pages others (command.Inherit heir from) keeps a p page =
    λ i. p i page
step-pages machine allowed other pages others (command.SetHome start bytes node) keeps a p page =
    λ i. pages_next machine (a i) (p i) (command.SetHome start bytes node) page
step-pages machine allowed other pages others (command.SetWeight node weight) keeps a p page =
    λ i. p i page
step-pages machine allowed other pages others (command.SetMems mask) keeps a p page =
    absurd (cc)

step-tasks : (machine : Hardware) (allowed other : ℕ) (tasks others : ℕ → Option PolicyRecord)
    (asked : Command) → keeps_nodes asked ≡ true → allowed ≡ other → tasks ≡ others → (task : ℕ)
    → task_next machine allowed tasks asked task
    ≡ task_next (turned_machine machine) other others asked task
step-tasks machine allowed other tasks others (command.Map start bytes offset size) keeps a t task =
    λ i. t i task
step-tasks machine allowed other tasks others (command.Unmap start bytes) keeps a t task =
    λ i. t i task
step-tasks machine allowed other tasks others (command.Mbind start bytes spec) keeps a t task =
    λ i. t i task
step-tasks machine allowed other tasks others (command.SetTask one spec) keeps a t task =
    λ i. task_next machine (a i) (t i) (command.SetTask one spec) task
step-tasks machine allowed other tasks others (command.Inherit heir from) keeps a t task =
    λ i. task_next machine (a i) (t i) (command.Inherit heir from) task
step-tasks machine allowed other tasks others (command.SetHome start bytes node) keeps a t task =
    λ i. t i task
step-tasks machine allowed other tasks others (command.SetWeight node weight) keeps a t task =
    λ i. t i task
step-tasks machine allowed other tasks others (command.SetMems mask) keeps a t task =
    absurd (cc)

pages-alike : (machine : Hardware) (history : List Command) → KeepNodes history
    → page_in machine history ≡ page_in (turned_machine machine) history
pages-alike machine [] keep = refl
pages-alike machine (asked ∷ history) keep =
    let each : (page : ℕ) → page_in machine (asked ∷ history) page
    ≡ page_in (turned_machine machine) (asked ∷ history) page =
    λ page. pages-next machine history asked page
    ∙ step-pages machine _ _ _ _ asked keep.0 (allowed-alike machine history keep.1)
    (pages-alike machine history keep.1) page
    ∙ sym (pages-next (turned_machine machine) history asked page) in
    λ i page. each page i

tasks-alike : (machine : Hardware) (history : List Command) → KeepNodes history
    → task_record machine history ≡ task_record (turned_machine machine) history
tasks-alike machine [] keep = refl
tasks-alike machine (asked ∷ history) keep =
    let each : (task : ℕ) → task_record machine (asked ∷ history) task
    ≡ task_record (turned_machine machine) (asked ∷ history) task =
    λ task. task-next machine history asked task
    ∙ step-tasks machine _ _ _ _ asked keep.0 (allowed-alike machine history keep.1)
    (tasks-alike machine history keep.1) task
    ∙ sym (task-next (turned_machine machine) history asked task) in
    λ i task. each task i

-- ---- the same list for each page

loads-alike : (machine : Hardware) (cpus from : ℕ)
    → loads_before machine cpus from ≡ loads_before (turned_machine machine) cpus from
unfolding loads_before
loads-alike machine cpus zero = refl
loads-alike machine cpus (suc from) =
    ap (λ (loads : List ℕ). fold one_more_at loads (turns (distance machine from) 10
    (order_by (kernel_cost machine cpus loads from) machine.memory)))
    (loads-alike machine cpus from)

costs-alike : (way : Fallback) (machine : Hardware) (from : ℕ)
    → cost_under way machine from ≡ cost_under way (turned_machine machine) from
costs-alike Nearest machine from = refl
costs-alike (Kernel cpus) machine from =
    ap (λ (loads : List ℕ). kernel_cost machine cpus loads from) (loads-alike machine cpus from)

order-alike : (machine : Hardware) (from : ℕ)
    → fallback_order machine from ≡ fallback_order (turned_machine machine) from
unfolding fallback_order
order-alike machine from = ap (λ (cost : ℕ → ℕ). order_by cost machine.memory)
    (costs-alike machine.fallback machine from)

module _ (machine : Hardware) (allowed : ℕ) (weight : ℕ → ℕ) where
  -- what a list depends on, on the machine and on its twin
  abbrev setting : Hardware → Setting
  setting one = record { machine = one; allowed = allowed; weight = weight }

  near-alike : (from : ℕ)
      → near (setting machine) from ≡ near (setting (turned_machine machine)) from
  near-alike from = ap (within allowed) (order-alike machine from)

  mode-alike : (how : Mode) (set from turn : ℕ) → list_by_mode (setting machine) how set from turn
      ≡ list_by_mode (setting (turned_machine machine)) how set from turn
  mode-alike mode.Default set from turn = near-alike from
  mode-alike mode.Local set from turn = near-alike from
  mode-alike mode.Preferred set from turn = near-alike (slice_index (members set) 0)
  mode-alike mode.Bind set from turn =
      ap (within (usable allowed set)) (order-alike machine from)
  mode-alike mode.PreferredMany set from turn =
      ap (λ (order : List ℕ). within (both set allowed) order
      ++ filter (λ node. has allowed node && not (has (both set allowed) node)) order)
      (order-alike machine from)
  mode-alike mode.Interleave set from turn = near-alike (interleave_node set turn)
  mode-alike mode.WeightedInterleave set from turn = near-alike (weighted_node weight set turn)

  list-alike : (policy : Option PolicyRecord) (cpu index : ℕ)
      → list_for (setting machine) policy cpu index
      ≡ list_for (setting (turned_machine machine)) policy cpu index
  list-alike None cpu index = near-alike cpu
  list-alike (Some r) cpu index =
      mode-alike r.spec.mode r.effective (unwrap_or r.home cpu) (turn_at index)

pub same-there : (machine : Hardware) (history : List Command) → KeepNodes history
    → (task page cpu : ℕ)
    → IsSameThere machine history (turned_machine machine) history task page cpu
same-there machine history keep task page cpu =
    let policy : resolved_policy machine history task page
    ≡ resolved_policy (turned_machine machine) history task page =
    λ i. policy_that_counts (policy_of_range (pages-alike machine history keep i page))
    (tasks-alike machine history keep i task) in
    let weight = node_weight history in
    let index = index_of history page in
    let lists : node_list machine history task page cpu
    ≡ node_list (turned_machine machine) history task page cpu =
    list-alike machine (allowed_nodes machine history) weight
    (resolved_policy machine history task page) cpu index
    ∙ (λ i. list_for (record {
      machine = turned_machine machine;
      allowed = allowed-alike machine history keep i;
      weight = weight;
    }) (policy i) cpu index) in (
      ap (λ (nodes : List ℕ). if is_some (place_refusal_of machine history page cpu) then []
          else nodes) lists,
      ap set_for policy,
    )

-- ---- a command that a kernel obeys no otherwise

document : (rules : Rules) → is_linux rules ≡ false → rules ≡ Document
document Document is = refl
document Linux is = absurd (cc)

pub refused-alike : (space : SpaceState) (history : List Command) (asked : Command)
    → StandsFor space history → KeepNodes history → keeps_nodes asked ≡ true
    → is_linux space.machine.rules ≡ false → otherwise_of space asked ≡ None
    → refusal_of space.machine space.bounds history asked
    ≡ refusal_of (turned_machine space.machine) space.bounds history asked
refused-alike space history asked stands keep keeps documents none =
    let is = document space.machine.rules documents in
    let after = page_in space.machine (asked ∷ history) in
    let allowed = allowed-alike space.machine history keep in
    let pages : page_at space.ranges ≡ page_in space.machine history =
    λ i page. stands.pages page i in
    let tasks : record_of space.tasks ≡ task_record space.machine history =
    λ i task. stands.tasks task i in
    let later = pages-alike space.machine (asked ∷ history) (keeps, keep) in
    let own : refusal_by Document space after asked
    ≡ refusal_of space.machine space.bounds history asked =
    λ i. refusal_in (record {
      machine = record space.machine { rules = sym is i };
      bounds = space.bounds;
      version = stands.version i;
      allowed = stands.allowed i;
      pages = pages i;
      pages_after = after;
      task = tasks i;
      task_count = stands.task_count i;
    }) asked in
    let by : refusal_by Linux space after asked
    ≡ refusal_of (turned_machine space.machine) space.bounds history asked =
    λ i. refusal_in (record {
      machine = record space.machine { rules = other_rules (sym is i) };
      bounds = space.bounds;
      version = stands.version i;
      allowed = (stands.allowed ∙ allowed) i;
      pages = (pages ∙ pages-alike space.machine history keep) i;
      pages_after = later i;
      task = (tasks ∙ tasks-alike space.machine history keep) i;
      task_count = stands.task_count i;
    }) asked in
    let alike : IsAnsweredAlike (otherwise_of space asked) =
    subst IsAnsweredAlike (sym none) tt in
    sym own ∙ same-answer space after asked documents alike ∙ by

-- ---- the same by the state of a script

pub obeyed-alike : (core : CoreState) (space : SpaceState) (state : State) (asked : Command)
    → space ≡ core.space → IsCoreIn core state → KeepNodes state.world.history
    → keeps_nodes asked ≡ true → is_linux space.machine.rules ≡ false
    → otherwise_of space asked ≡ None → IsRefusedAlike state.machine state asked
obeyed-alike core space state asked same is keep keeps documents none =
    let alike = refused-alike core.space state.world.history asked is.world.space keep keeps
    (subst (λ (one : SpaceState). is_linux one.machine.rules ≡ false) same documents)
    (subst (λ (one : SpaceState). otherwise_of one asked ≡ None) same none) in
    subst (λ (machine : Option Hardware). IsRefusedAlike machine state asked) (sym is.machine)
    (subst (λ (bounds : Bounds).
    refusal_of core.space.machine bounds state.world.history asked
    ≡ refusal_of (turned_machine core.space.machine) bounds state.world.history asked)
    (sym is.bounds) alike)

pub unready-alike : (state : State) (asked : Command) → state.machine ≡ None
    → IsRefusedAlike state.machine state asked
unready-alike state asked none =
    subst (λ (machine : Option Hardware). IsRefusedAlike machine state asked) (sym none) tt
