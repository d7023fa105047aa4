-- Pages that one policy placed in turn: where each lies, and how many lie on each node.
use Rattle.std.specs.Prelude.{◌≡◌, ℕ, ◌+◌, ◌<◌, ◌≤◌, ◌%◌, ◌^◌, ◌==◌, Bool, Option, Some, None, List}
use Rattle.std.specs.Prelude.{◌&&◌, length, if◌then◌else◌}
use Rattle.numa_ranges.specs.Counts.{count_pages}
use Rattle.numa_ranges.specs.Runs.{end_of, in_pages, page_at}
use Rattle.numa_ranges.specs.declared.run.Run.{Run}
pub use Rattle.numa_placed.specs.Laid.{kept_spot, slot_spot, turn_node}
use Rattle.numa_placed.specs.Moves.{moved_spot}
use Rattle.numa_placed.specs.Spots.{changed_spot, stated_spot}
use Rattle.numa_placed.specs.declared.change.Change.{Change}
use Rattle.numa_placed.specs.declared.places.Places.{Places}
use Rattle.numa_placed.specs.declared.spot.Spot.{Spot}
use Rattle.numa_placed.specs.declared.spot.Spot.TheVariants.{Nowhere, Stated}
use Rattle.numa_placed.specs.declared.turn.Slot.{Slot}
use Rattle.numa_placed.specs.declared.turn.Slot.TheVariants.{Lies, InTurn}
use Rattle.numa_placed.specs.declared.turn.Turn.{Turn}

-- a cycle has nodes, all of them in the list
pub record IsNamed (nodes : List ℕ) (turn : Turn) : Type 0 where
  pub some : 0 < turn.count
  pub within : turn.from + turn.count ≤ length nodes

-- how many of n pages from `first` on have this place in a cycle of so many nodes
abbrev pub pages_at_place : ℕ → ℕ → ℕ → ℕ → ℕ
pages_at_place count place first n = count_pages (λ page. page % count == place) first n

-- how many of them lie on a node
abbrev pub pages_in_turn : List ℕ → Turn → ℕ → ℕ → ℕ → ℕ
pages_in_turn nodes turn node first n =
    count_pages (λ page. turn_node nodes turn page == node) first n

-- the pages of a span, each stated to lie on a node of its own
abbrev pub turned_spots : ℕ → ℕ → (ℕ → ℕ) → (ℕ → Spot) → ℕ → Spot
turned_spots first pages heads spots page = if in_pages first pages page
    then stated_spot (heads page) (spots page) else spots page

-- ---- where pages lie, as it is kept

-- what is kept of a page, by what a map says of it
abbrev pub slot_in : Option (ℕ × Slot) → Slot
slot_in None = Lies Nowhere
slot_in (Some p) = p.1

abbrev pub slot_at : List (Run Slot) → ℕ → Slot
slot_at runs page = slot_in (page_at runs page)

-- where each page lies
abbrev pub spots_of : Places → ℕ → Spot
spots_of places page = kept_spot places.nodes.items (page_at places.map.runs page)

-- the runs have each page below 2^35, with itself as its index
abbrev pub HaveAll : List (Run Slot) → Type 0
HaveAll runs = (page : ℕ) → page < 2 ^ 35 → page_at runs page ≡ Some (page, slot_at runs page)

-- the cycles of all pages are named
abbrev pub AreNamed : List ℕ → List (Run Slot) → Type 0
AreNamed nodes runs = (page : ℕ) (turn : Turn) → slot_at runs page ≡ InTurn turn
    → IsNamed nodes turn

pub record AreKept (places : Places) : Type 0 where
  pub whole : HaveAll places.map.runs
  pub named : AreNamed places.nodes.items places.map.runs

-- what a change makes of what is kept of a page
abbrev pub changed_slot : Change → Slot → Slot
changed_slot change (Lies spot) = Lies (changed_spot change spot)
changed_slot change (InTurn turn) = Lies (changed_spot change (Stated 0))

-- a page that is stated to lie in turn
abbrev pub turned_slot : Turn → Slot → Slot
turned_slot turn slot = InTurn turn

-- a page once the pages of each node went to another: those in turn do so with their cycle's nodes
abbrev pub moved_slot : (ℕ → ℕ) → Slot → Slot
moved_slot go (Lies spot) = Lies (moved_spot go spot)
moved_slot go (InTurn turn) = InTurn turn

-- ---- runs

-- the pages of a run from `first` on have themselves as index, and their cycle is named
pub record HasOwn (nodes : List ℕ) (first : ℕ) (run : Run Slot) : Type 0 where
  pub index : first < end_of run → run.index ≡ run.first
  pub named : first < end_of run → (turn : Turn) → run.value ≡ InTurn turn → IsNamed nodes turn

-- how many of n pages from one on are of a run, and lie where the test holds
abbrev pub part_where : (Spot → Bool) → List ℕ → Run Slot → ℕ → ℕ → ℕ
part_where test nodes run first n = count_pages
    (λ page. in_pages run.first run.pages page && test (slot_spot nodes page run.value)) first n
