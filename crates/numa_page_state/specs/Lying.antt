-- Where pages lie that are there, beside a script of one process, and what the last move told.
use Rattle.std.specs.Prelude.{◌≡◌, ℕ, ◌+◌, ◌==◌, Bool, false, true, List, Option, Some, None}
use Rattle.std.specs.Prelude.{count_by, is_some, not}
use Rattle.std.specs.Option.{option_map}
use Rattle.numa_machine.specs.Machine.{Hardware}
use Rattle.numa_maps.specs.Residents.{Kept}
use Rattle.numa_ranges.specs.Runs.{page_at}
use Rattle.numa_space.specs.Limited.{Bounds}
use Rattle.numa_space.specs.Pages.{page_in}
use Rattle.numa_space.specs.Policies.{allowed_nodes}
use Rattle.numa_space.specs.Lists.{node_list}
use Rattle.numa_space.specs.Standing.{SpaceState, place_refusal_of}
use Rattle.numa_requests.specs.declared.command.Command.{Command}
use Rattle.numa_placed.specs.Moves.{goes, goes_from, moved_node, moved_spot}
use Rattle.numa_placed.specs.Binds.{list_unless, nodes_in}
use Rattle.numa_placed.specs.Shifts.{rooms_between, shift_of, shifted, stated_on, stay_on}
use Rattle.numa_placed.specs.Shifts.{sum_below}
use Rattle.numa_placed.specs.Spots.{pages_where}
use Rattle.numa_placed.specs.declared.spot.Spot.{Spot}
use Rattle.numa_placed.specs.declared.spot.Spot.TheVariants.{Nowhere, Stated}

-- ---- the process

-- the process of a script: its machine and limits, the accepted commands, and the pages that
-- `touch` has placed
pub record Process : Type 0 where
  pub machine : Hardware
  pub bounds : Bounds
  pub history : List Command
  pub kept : Kept

-- by a space that these commands led to
abbrev pub process_in : SpaceState → List Command → Kept → Process
process_in space history kept = record {
  machine = space.machine;
  bounds = space.bounds;
  history = history;
  kept = kept;
}

-- what pages that are there depend on: the machine, the allowed nodes, which pages are mapped,
-- which keep a frame, and the nodes where a fault of a task on a node looks for memory
pub record Ground : Type 0 where
  pub machine : Hardware
  pub allowed : ℕ
  pub mapped : ℕ → Bool
  pub kept : Kept
  pub lists : ℕ → ℕ → ℕ → List ℕ

-- the nodes where a fault of a task on the node `cpu` looks for memory; none where the page isn't
-- mapped, or the machine has no such node
abbrev pub lists_of : Hardware → List Command → ℕ → ℕ → ℕ → List ℕ
lists_of machine history task cpu page =
    list_unless (place_refusal_of machine history page cpu)
    (node_list machine history task page cpu)

-- by the accepted commands
abbrev pub ground_of : Process → Ground
ground_of process = record {
  machine = process.machine;
  allowed = allowed_nodes process.machine process.history;
  mapped = λ page. is_some (page_in process.machine process.history page);
  kept = process.kept;
  lists = lists_of process.machine process.history;
}

-- by a space
abbrev pub ground_in : SpaceState → Kept → Ground
ground_in space kept = record {
  machine = space.machine;
  allowed = space.allowed;
  mapped = λ page. is_some (page_at space.ranges page);
  kept = kept;
  lists = nodes_in space;
}

-- ---- the pages

-- what the last move did: how many pages moved, and how many had a node to go to and stayed; how
-- many went from each node, and where its pages go
pub record Told : Type 0 where
  pub moved : ℕ
  pub left : ℕ
  pub from : ℕ → ℕ
  pub to : ℕ → ℕ

-- what a policy did that pages went to: how many moved, and how many had to and stayed; how many
-- went from each node to each
pub record Sent : Type 0 where
  pub moved : ℕ
  pub left : ℕ
  pub flow : ℕ → ℕ → ℕ

-- the last move: of pages that go by their node, or each by its own policy
pub data LastMove : Type 0 where
  OfNodes : Told → LastMove
  OfPages : Sent → LastMove

-- nothing moved
abbrev pub still : Told
still = record { moved = 0; left = 0; from = λ node. 0; to = λ node. 0 }

-- what the last first touches of a span did: how many pages went to a node, how many found no room,
-- and how many went to each node
pub record Arrival : Type 0 where
  pub placed : ℕ
  pub exhausted : ℕ
  pub on : ℕ → ℕ

-- nothing was touched
abbrev pub untouched : Arrival
untouched = record { placed = 0; exhausted = 0; on = λ node. 0 }

-- whether a line about pages was accepted; where each page was stated to lie, or went since; how
-- many more pages each node takes, once a line said so of one; whether pages follow the allowed
-- nodes; and what the last move and the last first touches did. Pages that keep a frame aren't
-- among these spots
pub record Lying : Type 0 where
  pub begun : Bool
  pub spots : ℕ → Spot
  pub room : Option (ℕ → ℕ)
  pub follows : Bool
  pub last : LastMove
  pub arrived : Arrival

-- before the first line about pages
abbrev pub nothing : Lying
nothing = record {
  begun = false;
  spots = λ page. Nowhere;
  room = None;
  follows = false;
  last = OfNodes still;
  arrived = untouched;
}

-- pages lie so now: one that came to a node took one of its room, and one that left gave it back
abbrev pub with_spots : (ℕ → Spot) → Lying → Lying
with_spots spots at = record at {
  spots = spots;
  room = option_map (λ room. rooms_between room at.spots spots) at.room;
}

-- a page that lies somewhere without a frame is mapped
abbrev pub IsMapped : Bool → Spot → Type 0
IsMapped mapped Nowhere = Unit {0}
IsMapped mapped (Stated node) = mapped ≡ true

abbrev pub AreMapped : (ℕ → Bool) → (ℕ → Spot) → Type 0
AreMapped mapped spots = (page : ℕ) → IsMapped (mapped page) (spots page)

-- ---- moves

-- where pages lie after a move, with the rooms, and what is told of it
pub record Motion : Type 0 where
  pub spots : ℕ → Spot
  pub room : Option (ℕ → ℕ)
  pub told : Told

-- pages leave one set of nodes for another, where no node fills
abbrev pub free_motion : (ℕ → Spot) → ℕ → ℕ → Motion
free_motion spots old new = record {
  spots = λ page. moved_spot (moved_node old new) (spots page);
  room = None;
  told = record {
    moved = pages_where (goes (moved_node old new)) spots;
    left = 0;
    from = λ node. pages_where (goes_from (moved_node old new) node) spots;
    to = moved_node old new;
  };
}

-- as far as there is room
abbrev pub filling_motion : (ℕ → Spot) → (ℕ → ℕ) → ℕ → ℕ → Motion
filling_motion spots room old new = record {
  spots = shifted spots old new room;
  room = Some (shift_of spots old new room).room;
  told = record {
    moved = sum_below 256 (shift_of spots old new room).gone;
    left = sum_below 256
        (stay_on (moved_node old new) (stated_on spots) (shift_of spots old new room).gone);
    from = (shift_of spots old new room).gone;
    to = moved_node old new;
  };
}

abbrev pub motion : Option (ℕ → ℕ) → (ℕ → Spot) → ℕ → ℕ → Motion
motion None spots old new = free_motion spots old new
motion (Some room) spots old new = filling_motion spots room old new

-- how many pages keep a frame of a node whose pages go to another: they stay
abbrev pub held_left : Kept → (ℕ → ℕ) → ℕ
held_left kept go = count_by (λ at. not (go at.1.node == at.1.node)) kept

-- these are left too
abbrev pub with_held : Kept → Told → Told
with_held kept told = record told { left = told.left + held_left kept told.to }

-- the pages once they moved
abbrev pub with_motion : Kept → Lying → Motion → Lying
with_motion kept at done =
    record at {
      spots = done.spots;
      room = done.room;
      last = OfNodes (with_held kept done.told);
    }
