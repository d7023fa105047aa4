-- How much room nodes have before a trace, where pages take room and not frames.
use Rattle.std.specs.Prelude.{ℕ, ◌==◌, Option, Some, None, List, [], ◌∷◌, unwrap_or}
use Rattle.std.specs.Prelude.{if◌then◌else◌}
use Rattle.numa_placed.specs.Shifts.{endless, room_of}
use Rattle.numa_placed.specs.declared.rooms.Rooms.{Rooms}
use Rattle.numa_sheets.specs.declared.asked.FreePages.{FreePages}

-- the pages that are named for a node
abbrev pub given : List FreePages → ℕ → Option ℕ
given [] node = None
given (one ∷ free) node = if one.node == node then Some one.pages else given free node

-- the room that lines say; without any no node fills
abbrev pub room_by : Option Rooms → ℕ → ℕ
room_by None node = endless
room_by (Some rooms) node = room_of rooms node

-- where pages are named for nodes, the others never fill
abbrev pub room_before : Option Rooms → List FreePages → ℕ → ℕ
room_before rooms [] node = room_by rooms node
room_before rooms (one ∷ free) node = unwrap_or (given (one ∷ free) node) endless
