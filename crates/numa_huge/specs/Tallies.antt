-- What calls tell of the pages that they count and move.
use Rattle.std.specs.Prelude.{◌≡◌, ℕ, ◌<◌, ◌≤◌, ◌==◌, Bool, List, Option, Some, None, IsSomeAnd}
use Rattle.std.specs.Prelude.{◌&&◌, count_by, if◌then◌else◌, length, slice_index}
use Rattle.numa_ranges.specs.declared.fault.RangeError.{RangeError}
use Rattle.numa_ranges.specs.declared.fault.RangeError.TheVariants.{TooManyRanges}
use Rattle.numa_placed.specs.Shifts.{ArePages}
use Rattle.numa_placed.specs.declared.moved.Moved.{Moved}
use Rattle.numa_requests.specs.declared.page_refusal.PlacedRefusal.{PlacedRefusal}
use Rattle.numa_requests.specs.declared.page_refusal.PlacedRefusal.TheVariants.{NoMemory}
use Rattle.numa_requests.specs.declared.page_refusal.PlacedRefusal.TheVariants.{TooManyRuns}
use Rattle.numa_huge.specs.Huge.{HugeLying, HugePlaced, giver_for, has_reserved, lack_for}
use Rattle.numa_huge.specs.Huge.{on_node, pages_in, places_of, with_span}
use Rattle.numa_huge.specs.Moves.{HugeArrival, HugeMemory, HugeTold, HugeTouch, HugeWalk}
use Rattle.numa_huge.specs.declared.arrived.HugeArrived.{HugeArrived}
use Rattle.numa_huge.specs.declared.counts.Counts.{Counts}
use Rattle.numa_huge.specs.declared.last.Flows.{Flows}
use Rattle.numa_huge.specs.declared.last.HugeMove.{HugeMove}
use Rattle.numa_huge.specs.declared.last.HugeLast.{HugeLast}
use Rattle.numa_huge.specs.declared.last.HugeLast.TheVariants.{Nodes, Pages}
use Rattle.numa_huge.specs.declared.pages.HugePages.{HugePages}
use Rattle.numa_huge.specs.declared.spot.HugeSpot.{HugeSpot}
use Rattle.numa_huge.specs.declared.spot.HugeSpot.TheVariants.{On}

-- how many pages of a span lie on each node, and for how many a page is reserved
pub record AreCounts (counts : Counts) (spots : ℕ → Option HugeSpot) (first pages : ℕ) : Type 0
  where
    pub on : ArePages counts.on (λ node. pages_in (on_node node) spots first pages)
    pub reserved : counts.reserved ≡ pages_in has_reserved spots first pages

-- ---- lacks

-- why a change of runs is refused, for their number or for memory
abbrev pub lack_of : RangeError → PlacedRefusal
lack_of TooManyRanges = TooManyRuns
lack_of _ = NoMemory

-- a call is refused for its runs or for lack of memory, if the pages would be so
abbrev pub IsLackFor : (ℕ → Option HugeSpot) → PlacedRefusal → Type 0
IsLackFor after why = (starved : Bool) × (lack_for starved after ≡ Some why)

-- a page isn't touched for its runs or for lack of memory, though a node gives it
abbrev pub IsFaultLack : HugeLying → ℕ → List ℕ → PlacedRefusal → Type 0
IsFaultLack huge page nodes why = IsSomeAnd (giver_for huge page nodes)
    (λ node. IsLackFor (with_span page 1 (Some (On node)) huge.spots) why)

-- ---- moves

-- how many pages went from one node to another, by where those of each node went
abbrev pub flow_by_nodes : Moved → ℕ → ℕ → ℕ
flow_by_nodes told from to =
    if slice_index told.to from == to then slice_index told.from from else 0

-- by each page that moved
abbrev pub is_flow : ℕ → ℕ → HugeMove → Bool
is_flow from to gone = (gone.from == from) && (gone.to == to)

abbrev pub flow_in : List HugeMove → ℕ → ℕ → ℕ
flow_in moves from to = count_by (is_flow from to) moves

abbrev pub flow_of : HugeLast → ℕ → ℕ → ℕ
flow_of (Nodes told) from to = flow_by_nodes told from to
flow_of (Pages flows) from to = flow_in flows.moves.items from to

abbrev pub moved_of : HugeLast → ℕ
moved_of (Nodes told) = told.moved
moved_of (Pages flows) = length flows.moves.items

abbrev pub left_of : HugeLast → ℕ
left_of (Nodes told) = told.left
left_of (Pages flows) = flows.left

-- a move did this
pub record HasTold (last : HugeLast) (told : HugeTold) : Type 0 where
  pub moved : moved_of last ≡ told.moved
  pub left : left_of last ≡ told.left
  pub flow : (from to : ℕ) → from < 256 → to < 256 → flow_of last from to ≡ told.flow from to

-- so far goes a call that sends pages one by one
pub record IsWalk (walk : HugeWalk) (huge : HugePlaced) (flows : Flows) : Type 0 where
  pub pages : places_of huge ≡ walk.huge
  pub told : HasTold (Pages flows) walk.told

-- ---- first touches

pub record HasArrived (arrived : HugeArrived) (told : HugeArrival) : Type 0 where
  pub placed : arrived.placed ≡ told.placed
  pub exhausted : arrived.exhausted ≡ told.exhausted
  pub on : ArePages arrived.on told.on

-- each of its numbers is at most so large
pub record AreFew (arrived : HugeArrived) (most : ℕ) : Type 0 where
  pub placed : arrived.placed ≤ most
  pub exhausted : arrived.exhausted ≤ most
  pub on : (node : ℕ) → node < 256 → slice_index arrived.on node ≤ most

abbrev pub HaveArrived : Option HugeArrived → Option HugeArrival → Type 0
HaveArrived None None = Unit {0}
HaveArrived (Some arrived) (Some told) = HasArrived arrived told
HaveArrived _ _ = ⊥

-- so far goes a call that touches pages one by one
pub record IsTouch (touch : HugeTouch) (huge : HugePlaced) (arrived : HugeArrived) : Type 0 where
  pub pages : places_of huge ≡ touch.huge
  pub arrived_is : HasArrived arrived touch.arrived

-- ---- beside the other pages of a process

-- what is kept stands for this
pub record IsMemory (kept : HugePages) (memory : HugeMemory) : Type 0 where
  pub pages : places_of kept.places ≡ memory.pages
  pub told : HasTold kept.last memory.told
  pub arrived : HaveArrived kept.arrived memory.arrived

abbrev pub StandsForHuge : Option HugePages → Option HugeMemory → Type 0
StandsForHuge None None = Unit {0}
StandsForHuge (Some kept) (Some memory) = IsMemory kept memory
StandsForHuge _ _ = ⊥
