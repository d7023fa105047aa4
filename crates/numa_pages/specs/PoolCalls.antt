-- What calls about pools, and mappings of pages of 2 MiB, do to a core and its pages.
use Rattle.std.specs.Prelude.{◌≡◌, ℕ, Bool, true, false, List, Result, Ok, Err, OnOk, OnErr}
use Rattle.std.specs.Prelude.{IfOk, IfErr, Some, nat_le, if◌then◌else◌}
use Rattle.std.specs.Option.{option_map}
use Rattle.std.specs.Result.{result_err}
use Rattle.numa_core.specs.Standing.{setup_of}
use Rattle.numa_machine.specs.declared.page_size.PageSize.TheVariants.{Huge}
use Rattle.numa_requests.specs.declared.command.Command.{Command}
use Rattle.numa_requests.specs.declared.command.Command.TheVariants.{Map}
use Rattle.numa_requests.specs.declared.page_refusal.HugeRefusal.{HugeRefusal}
use Rattle.numa_requests.specs.declared.page_refusal.HugeRefusal.TheVariants as because
use Rattle.numa_space.specs.Policies.{task_record}
use Rattle.numa_space.specs.Refusals.{refusal_of}
use Rattle.numa_space.specs.Standing.{StandsFor}
use Rattle.numa_pools.specs.Pools.{PoolCounts, refusing}
use Rattle.numa_pools.specs.Resize.{node_refusal, resized, resized_node}
use Rattle.numa_huge.specs.Huge.{fresh_spot, with_span}
use Rattle.numa_huge.specs.Tallies.{IsLackFor}
use Rattle.numa_page_state.specs.Huge.{resizing_nodes}
use Rattle.numa_page_state.specs.Pooling.{lacks_huge_in, mapped_first, mapped_pages, pool_refusal}
use Rattle.numa_page_state.specs.Strict.{is_late}
use Rattle.numa_pages.specs.Changes.{Answers, PagesState, huge_in}
use Rattle.numa_pages.specs.Sizes.{said_pages, with_mapping}
use Rattle.numa_pages.specs.declared.mapping.HugeMapping.{HugeMapping}
use Rattle.numa_pages.specs.declared.refusal.ChangeRefusal.{ChangeRefusal}
use Rattle.numa_pages.specs.declared.refusal.ChangeRefusal.TheVariants.{OfSpace, OfPages, OfHuge}
use Rattle.numa_pages.specs.declared.refusal.ChangeRefusal.TheVariants.{NoMemory}

-- the pools are so now, and all else is as it was
abbrev pub with_pools : PoolCounts → PagesState → PagesState
with_pools pools pages = record pages { huge = record pages.huge { pools = pools } }

-- ---- pools that are resized: fresh pages come on allowed nodes alone

-- those of these nodes have so many pages in all
abbrev pub Resizes : ℕ → ℕ → PagesState → PagesState → Type 0
Resizes nodes pages before after = after
    ≡ with_pools (resized nodes before.core.space.allowed pages before.huge.pools) before

-- those of all nodes with memory have
abbrev pub ResizesAll : ℕ → PagesState → Unit {0} → PagesState → Type 0
ResizesAll pages before answer after =
    Resizes before.core.space.machine.memory pages before after

-- that of a node has so many pages, or it is told why not
pub record ResizesNode (node pages : ℕ) (before : PagesState)
    (answer : Result (Unit {0}) HugeRefusal) (after : PagesState) : Type 0 where
  pub refusal : result_err answer
      ≡ option_map pool_refusal (node_refusal before.core.space.machine.nodes before.huge.pools
      node (said_pages pages))
  pub resized_is : OnOk answer (after ≡ with_pools
      (resized_node node before.core.space.allowed (said_pages pages) before.huge.pools) before)
  pub unchanged : OnErr answer (after ≡ before)

-- those of the nodes of a task's policy have so many pages in all, unless the machine lacks the
-- node of the task's CPU
pub record ResizesFor (pages task cpu : ℕ) (before : PagesState)
    (answer : Result (Unit {0}) HugeRefusal) (after : PagesState) : Type 0 where
  pub near : OnOk answer (nat_le before.core.space.machine.nodes cpu ≡ false)
  pub resized_is : OnOk answer ((history : List Command) → StandsFor before.core.space history
      → Resizes (resizing_nodes (task_record before.core.space.machine history task)
      before.core.space.machine.memory cpu) pages before after)
  pub err : IfErr answer (λ why. (why ≡ because.BadCpu)
      × (nat_le before.core.space.machine.nodes cpu ≡ true))
  pub unchanged : OnErr answer (after ≡ before)

-- ---- a span that is mapped as pages of 2 MiB, which a task reserves or doesn't

abbrev pub command_in : HugeMapping → Command
command_in said = Map said.start said.length said.offset Huge

-- whether it finds too few pages, by the accepted commands
abbrev pub lacks_for : HugeMapping → PagesState → List Command → Bool
lacks_for said pages history = lacks_huge_in pages.core.space.machine history pages.huge.pools
    said.length said.task said.reserves

abbrev pub Lacking : Bool → HugeMapping → PagesState → Type 0
Lacking lacks said pages = (history : List Command) → StandsFor pages.core.space history
    → lacks_for said pages history ≡ lacks

-- nothing stands against it but the limits and lack of memory, which come behind it
abbrev pub IsLate : HugeMapping → PagesState → Type 0
IsLate said pages = (history : List Command) → StandsFor pages.core.space history
    → is_late pages.core.space.machine.rules (refusal_of pages.core.space.machine
    pages.core.space.bounds history (command_in said)) ≡ true

-- why it is refused: by the core; for the runs of its pages, or memory for them; since it finds too
-- few pages, whose free surplus ends then; or since memory lacks for the trial of one that does
abbrev pub IsMapCause : HugeMapping → PagesState → PagesState → ChangeRefusal → Type 0
IsMapCause said before after (OfSpace refusal) =
    Answers before.core (command_in said) (Err refusal) before.core × (after ≡ before)
IsMapCause said before after (OfPages why) = Lacking false said before
    × IsLackFor (with_span (mapped_first said.start) (mapped_pages said.length)
    (Some (fresh_spot said.reserves)) (huge_in before).spots) why × (after ≡ before)
IsMapCause said before after (OfHuge why) = (why ≡ because.NoHugePages)
    × Lacking true said before × IsLate said before
    × (after ≡ with_pools (refusing before.huge.pools (mapped_pages said.length)) before)
IsMapCause said before after NoMemory = Lacking true said before × (after ≡ before)

-- it was mapped, with enough pages, or it is told why not
pub record MapsHuge (said : HugeMapping) (before : PagesState) (answer : Result ℕ ChangeRefusal)
    (after : PagesState) : Type 0 where
  pub core : IfOk answer (λ version. Answers before.core (command_in said) (Ok version) after.core)
  pub huge : OnOk answer (huge_in after ≡ with_mapping said.start said.length said.reserves
      (huge_in before))
  pub enough : OnOk answer (Lacking false said before)
  pub state : after.state ≡ before.state
  pub setup : setup_of after.core ≡ setup_of before.core
  pub err : IfErr answer (IsMapCause said before after)
