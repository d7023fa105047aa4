-- Why a call is refused.
use Rattle.std.specs.Prelude.{◌≡◌, ◌≢◌, ℕ, ◌+◌, ◌*◌, ◌%◌, ◌^◌, ◌==◌, ◌||◌, Bool, true, false, not}
use Rattle.std.specs.Prelude.{nat_le, nat_lt}
use Rattle.std.specs.Prelude.{Option, Some, None, if◌then◌else◌}
use Rattle.numa_mask.specs.NodeSet.{has, both}
use Rattle.numa_machine.specs.Machine.{Hardware}
use Rattle.numa_ranges.specs.Maps.{any_page}
use Rattle.numa_space.specs.History.{page_of, page_count}
use Rattle.numa_placed.specs.Spots.{too_many}
use Rattle.numa_placed.specs.declared.spot.Spot.{Spot}
use Rattle.numa_placed.specs.declared.spot.Spot.TheVariants.{Nowhere, Stated}
use Rattle.numa_requests.specs.declared.page_refusal.PlacedRefusal.{PlacedRefusal}
use Rattle.numa_requests.specs.declared.page_refusal.PlacedRefusal.TheVariants.{Unaligned}
use Rattle.numa_requests.specs.declared.page_refusal.PlacedRefusal.TheVariants.{OutOfSpace}
use Rattle.numa_requests.specs.declared.page_refusal.PlacedRefusal.TheVariants.{NoSuchNode}
use Rattle.numa_requests.specs.declared.page_refusal.PlacedRefusal.TheVariants.{Occupied}
use Rattle.numa_requests.specs.declared.page_refusal.PlacedRefusal.TheVariants.{NodesNotAllowed}
use Rattle.numa_requests.specs.declared.page_refusal.PlacedRefusal.TheVariants.{Astray}
use Rattle.numa_requests.specs.declared.page_refusal.PlacedRefusal.TheVariants.{BadCpu, Unmapped}
use Rattle.numa_requests.specs.declared.page_refusal.PlacedRefusal.TheVariants.{NoRoom}
use Rattle.numa_requests.specs.declared.page_refusal.PlacedRefusal.TheVariants.{TooManyRuns}
use Rattle.numa_requests.specs.declared.page_refusal.PlacedRefusal.TheVariants.{NoMemory}
use Rattle.numa_requests.specs.declared.page_refusal.MoveRefusal.{MoveRefusal}
use Rattle.numa_requests.specs.declared.page_refusal.MoveRefusal.TheVariants as move

-- ---- causes, in order

-- the first of two causes
abbrev pub first_of : Option PlacedRefusal → Option PlacedRefusal → Option PlacedRefusal
first_of None other = other
first_of (Some cause) other = Some cause

-- the machine lacks the node, or the node has no memory
abbrev pub lacks_node : Hardware → ℕ → Bool
lacks_node machine node = nat_le machine.nodes node || not (has machine.memory node)

-- a span begins at a page, and ends at address 2^47 at the latest
abbrev pub span_cause : ℕ → ℕ → Option PlacedRefusal
span_cause start bytes =
    if not (start % 4096 == 0) then Some Unaligned
    else if nat_lt (2 ^ 47) (start + page_count bytes * 4096) then Some OutOfSpace
    else None

-- why pages of a span may not be stated to lie on a node
abbrev pub state_cause : Hardware → ℕ → ℕ → ℕ → Option PlacedRefusal
state_cause machine start bytes node = first_of (span_cause start bytes)
    (if lacks_node machine node then Some NoSuchNode else None)

-- why a task on a CPU of node `cpu` may not touch so many pages, where these are mapped
abbrev pub touch_cause : Hardware → (ℕ → Bool) → ℕ → ℕ → ℕ → Option PlacedRefusal
touch_cause machine mapped first pages cpu = if nat_le machine.nodes cpu then Some BadCpu
    else if any_page (λ page. not (mapped page)) first pages then Some Unmapped else None

-- why it may not touch the pages of a span
abbrev pub populate_cause : Hardware → (ℕ → Bool) → ℕ → ℕ → ℕ → Option PlacedRefusal
populate_cause machine mapped start bytes cpu = first_of (span_cause start bytes)
    (touch_cause machine mapped (page_of start) (page_count bytes) cpu)

-- why pages may not migrate: none of the nodes is allowed
abbrev pub migrate_cause : ℕ → ℕ → Option PlacedRefusal
migrate_cause allowed to = if both to allowed == 0 then Some NodesNotAllowed else None

-- why a page that lies here may not move to a node: one that is nowhere can't
abbrev pub spot_cause : ℕ → Spot → Option MoveRefusal
spot_cause node Nowhere = Some move.NotPlaced
spot_cause node (Stated from) = None

-- why a page that lies here, and is mapped or isn't, may not move to a node
abbrev pub move_cause : Hardware → ℕ → ℕ → Bool → Spot → Option MoveRefusal
move_cause machine allowed node is_mapped spot =
    if lacks_node machine node then Some move.NoSuchNode
    else if not (has allowed node) then Some move.NodesNotAllowed
    else if not is_mapped then Some move.Unmapped
    else spot_cause node spot

-- ---- where nothing else stands against a call

-- too many runs, where there would be too many; or memory lacks
abbrev pub IsLack : (ℕ → Spot) → PlacedRefusal → Type 0
IsLack after Unaligned = ⊥
IsLack after OutOfSpace = ⊥
IsLack after NoSuchNode = ⊥
IsLack after Occupied = ⊥
IsLack after NodesNotAllowed = ⊥
IsLack after Astray = ⊥
IsLack after BadCpu = ⊥
IsLack after Unmapped = ⊥
IsLack after NoRoom = ⊥
IsLack after TooManyRuns = too_many after ≡ true
IsLack after NoMemory = Unit {0}

-- memory lacks only for a span that has bytes
abbrev pub LacksForBytes : ℕ → PlacedRefusal → Type 0
LacksForBytes bytes refusal = refusal ≡ NoMemory → bytes ≢ 0

-- a node lacks room for pages that would come to it; or memory lacks
abbrev pub IsFull : PlacedRefusal → Type 0
IsFull Unaligned = ⊥
IsFull OutOfSpace = ⊥
IsFull NoSuchNode = ⊥
IsFull Occupied = ⊥
IsFull NodesNotAllowed = ⊥
IsFull Astray = ⊥
IsFull BadCpu = ⊥
IsFull Unmapped = ⊥
IsFull NoRoom = Unit {0}
IsFull TooManyRuns = ⊥
IsFull NoMemory = Unit {0}

-- room lacks, where it does, or else runs or memory
abbrev pub IsShort : Bool → (ℕ → Spot) → PlacedRefusal → Type 0
IsShort true after refusal = IsFull refusal
IsShort false after refusal = IsLack after refusal

-- the first cause, where there is one, or else lack of room, runs or memory
abbrev pub IsRefusalWithin : Option PlacedRefusal → Bool → (ℕ → Spot) → PlacedRefusal → Type 0
IsRefusalWithin (Some cause) short after refusal = refusal ≡ cause
IsRefusalWithin None short after refusal = IsShort short after refusal

-- the first cause, where there is one, or else a lack
abbrev pub IsRefusal : Option PlacedRefusal → (ℕ → Spot) → PlacedRefusal → Type 0
IsRefusal (Some cause) after refusal = refusal ≡ cause
IsRefusal None after refusal = IsLack after refusal

abbrev pub IsMoveLack : (ℕ → Spot) → MoveRefusal → Type 0
IsMoveLack after move.NoSuchNode = ⊥
IsMoveLack after move.NodesNotAllowed = ⊥
IsMoveLack after move.Unmapped = ⊥
IsMoveLack after move.NotPlaced = ⊥
IsMoveLack after move.NoRoom = ⊥
IsMoveLack after move.TooManyRuns = too_many after ≡ true
IsMoveLack after move.NoMemory = Unit {0}

abbrev pub IsMoveRefusal : Option MoveRefusal → (ℕ → Spot) → MoveRefusal → Type 0
IsMoveRefusal (Some cause) after refusal = refusal ≡ cause
IsMoveRefusal None after refusal = IsMoveLack after refusal
