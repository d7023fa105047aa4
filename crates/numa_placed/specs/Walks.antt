-- Pages of a span that are sent from the lowest on: how far a walk is, whatever is kept of them.
use Rattle.std.specs.Prelude.{◌≡◌, ℕ, ◌+◌, ◌<◌, ◌≤◌, ◌&&◌, Bool, Option, false, true}
use Rattle.numa_ranges.specs.Counts.{count_pages}
use Rattle.numa_placed.specs.Binds.{Asked, bound_by, first_with_room, goals, is_kept, is_sent}
use Rattle.numa_placed.specs.Binds.{room_before, strays}
use Rattle.numa_placed.specs.Shifts.{AreRooms, endless, room_of}
use Rattle.numa_placed.specs.declared.bind.Walk.{Walk}
use Rattle.numa_placed.specs.declared.once.Once.{Once}
use Rattle.numa_placed.specs.declared.rooms.Rooms.{Rooms}
use Rattle.numa_placed.specs.declared.spot.Spot.{Spot}
use Rattle.numa_placed.specs.declared.spot.Spot.TheVariants.{Nowhere}

-- how many pages below one are to go and pass the test
abbrev pub passed_below : (Option ℕ → Spot → Bool) → Asked → (ℕ → Option ℕ) → (ℕ → Spot) → ℕ → ℕ
passed_below test asked goal spots low = count_pages (λ page. strays asked page (spots page)
    && test (goal page) (spots page)) 0 low

-- the pages below one went, those from it on are as they were, and this was told so far
pub record IsWalked (asked : Asked) (old : ℕ → Spot) (room : ℕ → ℕ) (low : ℕ) (next : ℕ → Spot)
    (walk : Walk) : Type 0 where
  pub done : (page : ℕ) → page < low → next page ≡ bound_by asked (goals asked old room) old page
  pub ahead : (page : ℕ) → low ≤ page → next page ≡ old page
  pub sent : walk.told.moved ≡ passed_below is_sent asked (goals asked old room) old low
  pub kept : walk.told.left ≡ passed_below is_kept asked (goals asked old room) old low
  pub rooms : AreRooms walk.rooms (room_before asked old room low)

-- the only pages of a span that are to go lie nowhere, and the first node with room of the list of
-- each is the same
pub record GoOnce (asked : Asked) (spots : ℕ → Spot) (rooms : Rooms) (once : Once) : Type 0 where
  pub low : asked.first ≤ once.page
  pub high : once.page + once.pages ≤ asked.first + asked.pages
  pub before : (page : ℕ) → asked.first ≤ page → page < once.page
      → asked.wants page (spots page) ≡ false
  pub behind : (page : ℕ) → once.page + once.pages ≤ page → page < asked.first + asked.pages
      → asked.wants page (spots page) ≡ false
  pub nowhere : (page : ℕ) → once.page ≤ page → page < once.page + once.pages
      → spots page ≡ Nowhere
  pub wanted : (page : ℕ) → once.page ≤ page → page < once.page + once.pages
      → asked.wants page Nowhere ≡ true
  pub alike : (page : ℕ) → once.page ≤ page → page < once.page + once.pages
      → asked.nodes page ≡ asked.nodes once.page
  pub goal : 0 < once.pages → (room : ℕ → ℕ) → AreRooms rooms room
      → first_with_room room (asked.nodes once.page) ≡ once.goal

-- a node has room for so many pages
pub record Fits (rooms : Rooms) (node pages : ℕ) : Type 0 where
  pub fits : pages ≤ room_of rooms node
  pub most : room_of rooms node ≤ endless
