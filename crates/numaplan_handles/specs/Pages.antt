-- What a call does to a core with its pages that is kept, and what it answers.
use Rattle.std.specs.Prelude.{◌≡◌, ◌≢◌, ◌<◌, ℕ, true, false, Option, Some, None, Result, Ok, Err, List}
use Rattle.std.specs.Prelude.{OnOk, OnErr, IfSome, MatchOption, is_some, slice_index, EachIndex}
use Rattle.std.specs.Prelude.{length, unwrap_or}
use Rattle.numa_core.specs.Standing.{CoreState}
use Rattle.numa_machine.specs.declared.no_memory.NoMemory.{NoMemory}
use Rattle.numa_huge.specs.Huge.{no_huge}
use Rattle.numa_pages.specs.Changes.{PagesState, huge_in}
use Rattle.numa_pages.specs.Listing.{AreListed}
use Rattle.numa_pages.specs.Sizes.{both_on, both_spots}
use Rattle.numa_pages.specs.declared.listing.PageRun.{PageRun}
use Rattle.numa_placed.specs.Refusals.{lacks_node}
use Rattle.numa_page_state.specs.Lying.{Lying, nothing}
use Rattle.numa_page_state.specs.Outcomes.{rooms_of}
use Rattle.numa_page_state.specs.Standing.{LiesAs}
use Rattle.numa_placed.specs.Spots.{node_of, spot_at}
use Rattle.numa_placed.specs.declared.spot.Spot.{Spot}
use Rattle.numa_requests.specs.declared.page_refusal.PlacedRefusal.{PlacedRefusal}
use Rattle.numa_requests.specs.declared.page_refusal.PlacedRefusal.TheVariants.{NoSuchNode}

-- `told` says what the call did to what is kept
abbrev pub OfPages : {A : Type 0} → (PagesState → A → PagesState → Type 0) → Option PagesState
    → Option PagesState → A → Type 0
OfPages told old new answer = (before : PagesState) → old ≡ Some before →
    (after : PagesState) × (new ≡ Some after) × told before answer after

-- `told` is said of what is kept
abbrev pub TellsOf : (PagesState → Type 0) → Option PagesState → Type 0
TellsOf told kept = (pages : PagesState) → kept ≡ Some pages → told pages

-- ---- opening

-- nothing is stated of any page, no node ever fills, and the pools have no page
abbrev pub IsUntouched : PagesState → Type 0
IsUntouched pages = LiesAs pages.state nothing
    × (huge_in pages ≡ no_huge pages.core.space.machine.memory)

-- these are the core that is kept, and pages of which nothing is stated
abbrev pub IsOpenedFrom : Option CoreState → PagesState → Type 0
IsOpenedFrom kept pages = (kept ≡ Some pages.core) × IsUntouched pages

-- this is the core of the pages that are kept
abbrev pub IsCoreOf : Option PagesState → CoreState → Type 0
IsCoreOf kept core = (pages : PagesState) → kept ≡ Some pages → core ≡ pages.core

-- another handle, which was closed, keeps what was made from what one keeps; where there is no
-- memory for it, it stays closed
abbrev pub IsMade : {A B : Type 0} → (Option A → B → Type 0) → Option A
    → Option (Result (Unit {0}) NoMemory) → Option B → Type 0
IsMade made from answer new = (from ≡ None → answer ≡ None)
    × MatchOption answer ((from ≡ None) × (new ≡ None)) (λ it. (is_some from ≡ true)
    × OnOk it (is_some new ≡ true) × OnErr it (new ≡ None))
    × IfSome new (made from)

-- ---- questions

-- where each page of 4 KiB lies, or the one of 2 MiB of which it is a part
abbrev pub spots_in : PagesState → ℕ → Spot
spots_in pages = both_spots (huge_in pages) (spot_at pages.state.placed)

-- this is the node on which a page lies, if it lies on one
abbrev pub HasNode : ℕ → Option ℕ → PagesState → Type 0
HasNode page found pages = found ≡ node_of (spots_in pages page)

-- this is the node on which a page lies, or the mark where it lies nowhere
abbrev pub IsNodeOr : ℕ → (ℕ → Spot) → ℕ → ℕ → Type 0
IsNodeOr mark spots page node = node ≡ unwrap_or (node_of (spots page)) mark

abbrev pub HasNodeOr : ℕ → ℕ → ℕ → PagesState → Type 0
HasNodeOr mark page node pages = IsNodeOr mark (spots_in pages) page node

-- of pages in whatever order: at each one's place the node on which it lies, or the mark; there are
-- as many places as pages, or nothing is told
abbrev pub HasNodes : List ℕ → ℕ → Result ℕ ℕ → List ℕ → List ℕ → PagesState → Type 0
HasNodes numbers mark (Ok count) old new pages = (count ≡ length numbers) × (length old ≡ count)
    × EachIndex new (λ k. HasNodeOr mark (slice_index numbers k) (slice_index new k) pages)
HasNodes numbers mark (Err count) old new pages = (count ≡ length numbers) × (length old ≢ count)
    × (new ≡ old)

-- so many pages of 4 KiB lie on each node, of which one of 2 MiB is 512
abbrev pub HasCounts : List ℕ → PagesState → Type 0
HasCounts counts pages = (node : ℕ) → node < 256
    → slice_index counts node ≡ both_on (huge_in pages) (spot_at pages.state.placed) node

-- these are the maximal runs of pages that lie on a node, in ascending order
abbrev pub HasRuns : List PageRun → PagesState → Type 0
HasRuns list pages = AreListed (spots_in pages) 0 list

-- a node takes so many more pages; or it has no memory
abbrev pub HasRoom : ℕ → Result ℕ PlacedRefusal → PagesState → Type 0
HasRoom node (Ok pages) kept = (lacks_node kept.core.space.machine node ≡ false)
    × ((lying : Lying) → LiesAs kept.state lying → pages ≡ rooms_of lying.room node)
HasRoom node (Err cause) kept = (lacks_node kept.core.space.machine node ≡ true)
    × (cause ≡ NoSuchNode)
