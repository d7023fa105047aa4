-- What a move that is on its way stands for.
use Rattle.std.specs.Prelude.{◌≡◌, ℕ, ◌+◌, ◌-◌, ◌<◌, ◌≤◌, ◌&&◌, Bool, true, false, List, Option}
use Rattle.std.specs.Prelude.{Some, None, nat_lt, slice_index, if◌then◌else◌}
use Rattle.numa_mode.specs.Policy.{PolicyRecord}
use Rattle.numa_mode.specs.declared.modes.Mode.{Mode}
use Rattle.numa_mode.specs.declared.modes.Mode.TheVariants.{Interleave, WeightedInterleave}
use Rattle.numa_ranges.specs.Counts.{count_pages}
use Rattle.numa_placed.specs.Binds.{goal_at, is_kept, is_sent, room_sent, sent_spot}
use Rattle.numa_placed.specs.Shifts.{ArePages, AreRooms, Going}
use Rattle.numa_placed.specs.Shifts.{stated_below}
use Rattle.numa_placed.specs.declared.bind.Walk.{Walk}
use Rattle.numa_placed.specs.declared.bound.Bound.{Bound}
use Rattle.numa_placed.specs.declared.course.Course.{Course}
use Rattle.numa_placed.specs.declared.spot.Spot.{Spot}
use Rattle.numa_placed.specs.declared.spot.Spot.TheVariants.{Stated}

-- pages that are stated to lie somewhere lie on one of 256 nodes
abbrev pub AreOnNodes : (ℕ → Spot) → Type 0
AreOnNodes spots = (page node : ℕ) → spots page ≡ Stated node → node < 256

-- ---- node by node

-- a list has 1 for each node that passes, else 0
abbrev pub AreWaiting : List ℕ → (ℕ → Bool) → Type 0
AreWaiting list still =
    (node : ℕ) → node < 256 → slice_index list node ≡ (if still node then 1 else 0)

pub record GoesAs (course : Course) (going : Going) : Type 0 where
  pub waits : AreWaiting course.waits going.waits
  pub room : AreRooms course.rooms going.room
  pub gone : ArePages course.gone going.gone
  pub full : course.full ≡ going.full

-- ---- the lowest pages

-- where the pages of a node go, if at least so many of each node went
abbrev pub target_from : (ℕ → ℕ) → (ℕ → ℕ) → (ℕ → ℕ) → ℕ → ℕ
target_from go least gone node = if nat_lt (gone node) (least node) then node else go node

-- whether some pages of a node went, and some stay
abbrev pub is_split : (ℕ → ℕ) → (ℕ → ℕ) → ℕ → Bool
is_split count gone node = nat_lt 0 (gone node) && nat_lt (gone node) (count node)

-- of one node at most
abbrev pub IsAlone : (ℕ → ℕ) → (ℕ → ℕ) → Type 0
IsAlone count gone = (node other : ℕ) → node < 256 → other < 256
    → is_split count gone node ≡ true → is_split count gone other ≡ true → node ≡ other

-- so many of the lowest pages of a node are those below a page
abbrev pub IsCut : (ℕ → Spot) → ℕ → ℕ → ℕ → Type 0
IsCut spots node pages cut = (page : ℕ) → spots page ≡ Stated node
    → nat_lt (stated_below spots page node) pages ≡ nat_lt page cut

-- ---- page by page

-- the rooms that each page finds, from one up to another, where those that pass are sent
abbrev pub AreFound : (ℕ → Bool) → (ℕ → List ℕ) → Spot → ℕ → ℕ → (ℕ → ℕ → ℕ) → Type 0
AreFound test nodes spot from to rooms = (page : ℕ) → from ≤ page → page < to
    → rooms (page + 1) ≡ (if test page then room_sent (rooms page) (goal_at nodes rooms page) spot
    else rooms page)

-- of the pages from one up to another, which lay here, those that pass were sent
pub record AreSent (test : ℕ → Bool) (goal : ℕ → Option ℕ) (spot : Spot) (from to : ℕ)
    (old new : ℕ → Spot) (before after : Bound) : Type 0 where
  pub below : (page : ℕ) → page < from → new page ≡ old page
  pub sent : (page : ℕ) → from ≤ page → page < to → test page ≡ true
      → new page ≡ sent_spot (goal page) (old page)
  pub kept : (page : ℕ) → from ≤ page → page < to → test page ≡ false → new page ≡ old page
  pub above : (page : ℕ) → to ≤ page → new page ≡ old page
  pub moved : after.moved ≡ before.moved + count_pages (λ page. test page
      && is_sent (goal page) spot) from (to - from)
  pub left : after.left ≡ before.left + count_pages (λ page. test page
      && is_kept (goal page) spot) from (to - from)

-- each where it found room
abbrev pub Sends : (ℕ → Bool) → (ℕ → List ℕ) → Spot → ℕ → ℕ → (ℕ → Spot) → (ℕ → Spot) → Walk
    → Walk → Type 0
Sends test nodes spot from to old new before after = (rooms : ℕ → ℕ → ℕ)
    → AreRooms before.rooms (rooms from) → AreFound test nodes spot from to rooms
    → AreSent test (goal_at nodes rooms) spot from to old new before.told after.told
    × AreRooms after.rooms (rooms to)

-- ---- pages that go together

-- whether a mode takes its nodes in turn, page by page
abbrev pub takes_turns : Mode → Bool
takes_turns Interleave = true
takes_turns WeightedInterleave = true
takes_turns _ = false

-- whether the lists of a policy's pages differ
abbrev pub turns : Option PolicyRecord → Bool
turns None = false
turns (Some r) = takes_turns r.spec.mode
