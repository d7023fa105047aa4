-- Mappings of pages of 2 MiB, and the words in which calls about such pages are refused.
use Rattle.std.specs.Prelude.{ℕ, ◌/◌, ◌&&◌, Bool, List}
use Rattle.numa_machine.specs.Machine.{Hardware}
use Rattle.numa_machine.specs.Sizes.{whole}
use Rattle.numa_machine.specs.declared.page_size.PageSize.TheVariants.{Huge}
use Rattle.numa_machine.specs.declared.refusal.PlaceRefusal.{PlaceRefusal}
use Rattle.numa_machine.specs.declared.refusal.PlaceRefusal.TheVariants as place
use Rattle.numa_requests.specs.declared.command.Command.{Command}
use Rattle.numa_requests.specs.declared.page_refusal.HugeRefusal.{HugeRefusal}
use Rattle.numa_requests.specs.declared.page_refusal.HugeRefusal.TheVariants as because
use Rattle.numa_requests.specs.declared.page_refusal.PlacedRefusal.{PlacedRefusal}
use Rattle.numa_requests.specs.declared.page_refusal.PlacedRefusal.TheVariants as cause
use Rattle.numa_space.specs.Policies.{allowed_nodes, task_record}
use Rattle.numa_pools.specs.Pools.{PoolCounts, lacks_pages}
use Rattle.numa_pools.specs.declared.refusal.PoolRefusal.{PoolRefusal}
use Rattle.numa_pools.specs.declared.refusal.PoolRefusal.TheVariants as pool
use Rattle.numa_page_state.specs.Huge.{mapping_nodes}

-- ---- mappings

-- the first page of 2 MiB of a span, and how many pages its bytes take
abbrev pub mapped_first : ℕ → ℕ
mapped_first start = start / 2097152

abbrev pub mapped_pages : ℕ → ℕ
mapped_pages bytes = whole Huge bytes / 2097152

-- a mapping of a task that reserves its pages finds too few
abbrev pub lacks_huge_in : Hardware → List Command → PoolCounts → ℕ → ℕ → Bool → Bool
lacks_huge_in machine history pools bytes task reserves = reserves
    && lacks_pages pools (mapped_pages bytes)
    (mapping_nodes (task_record machine history task) (allowed_nodes machine history))

-- ---- refusals

-- why a pool isn't resized
abbrev pub pool_refusal : PoolRefusal → HugeRefusal
pool_refusal pool.NoSuchNode = because.NoSuchNode
pool_refusal pool.Unsure = because.Unsure

-- why a page isn't touched that has no list of nodes, or though it has one
abbrev pub place_cause : PlaceRefusal → HugeRefusal
place_cause place.BadCpu = because.BadCpu
place_cause place.Unmapped = because.Unmapped

abbrev pub fault_cause : PlacedRefusal → HugeRefusal
fault_cause cause.TooManyRuns = because.TooManyRuns
fault_cause _ = because.NoMemory
