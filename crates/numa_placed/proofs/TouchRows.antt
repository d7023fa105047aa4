-- Worked examples: where the pages of a span go that a task touches first, and the rooms behind
-- them.
use Rattle.std.proofs.Common.{◌≡◌, ℕ, List, [], ◌∷◌, map, Some, None, refl, false}
use Rattle.std.specs.Prelude.{◌==◌, ◌%◌, if◌then◌else◌}
use Rattle.std.specs.List.{range_with_len}
use Rattle.numa_mask.specs.NodeSet.{members}
use Rattle.numa_machine.specs.Machine.{fallback_order}
use Rattle.numa_machine.specs.Sizes.{is_part, is_shared, turn_at}
use Rattle.numa_machine.specs.Weights.{interleave_node}
use Rattle.numa_maps.specs.Residents.{Kept}
use Rattle.numa_mode.specs.declared.modes.Mode.TheVariants.{Interleave}
use Rattle.numa_mode.specs.declared.modes.NodeFlag.TheVariants.{Plain}
use Rattle.numa_space.proofs.Rows.{asked, flat}
use Rattle.numa_space.specs.Standing.{SpaceState}
use Rattle.numa_placed.specs.Binds.{Asked, bound_spots, nodes_in, room_before, touched_in}
use Rattle.numa_placed.specs.Shifts.{endless, room_between, room_cause, room_moved}
use Rattle.numa_placed.specs.declared.spot.Spot.{Spot}
use Rattle.numa_placed.specs.declared.spot.Spot.TheVariants.{Nowhere, Stated}
use Rattle.numa_requests.specs.declared.page_refusal.MoveRefusal.TheVariants.{NoRoom}

-- two nodes, and pages 4 to 9, which task 1 interleaves over both
space : SpaceState
space = record {
  machine = flat 2;
  bounds = record { max_ranges = 64; max_tasks = 8; max_commands = 8 };
  version = 2;
  allowed = 3;
  ranges = record { first = 4; pages = 6; index = 0; value = None } ∷ [];
  tasks = (
    1,
    record {
      spec = asked Interleave Plain (0 ∷ 1 ∷ []);
      effective = 3;
      home = None;
      of_object = false;
    },
  ) ∷ [];
  weights = record { nodes = 2; weights = [] };
}

-- page 6 keeps a frame, and page 5 lies on node 1
kept : Kept
kept = (
  6,
  record {
    version = 2;
    task = 1;
    page = 6;
    node = 0;
    frame = record { node = 0; number = 7 };
    rank = 0;
  },
) ∷ []

spots : ℕ → Spot
spots page = if page == 5 then Stated 1 else Nowhere

-- two more pages find room on node 0, and one on node 1
room : ℕ → ℕ
room node = if node == 0 then 2 else 1

-- the lists of the pages turn
turns : ℕ → List ℕ
turns page = if page % 2 == 0 then 0 ∷ 1 ∷ [] else 1 ∷ 0 ∷ []

lists-turn : map (nodes_in space 1 0) (range_with_len 4 3) ≡ map turns (range_with_len 4 3)
unfolding members fallback_order interleave_node turn_at is_part is_shared space turns
lists-turn = refl

touched : Asked
touched = record (touched_in space kept 4 6 1 0) { nodes = turns }

-- pages 5 and 6 are there; page 9 finds no room on either node
touched-by_turns : map (bound_spots touched spots room) (range_with_len 4 6)
    ≡ Stated 0 ∷ Stated 1 ∷ Nowhere ∷ Stated 1 ∷ Stated 0 ∷ Nowhere ∷ []
unfolding kept spots room turns touched room_before
touched-by_turns = refl

-- the rooms that page 8 finds, and those behind the span
rooms-page_finds : map (room_before touched spots room 8) (0 ∷ 1 ∷ []) ≡ 1 ∷ 0 ∷ []
unfolding kept spots room turns touched room_before
rooms-page_finds = refl

rooms-behind : map (room_before touched spots room 10) (0 ∷ 1 ∷ []) ≡ 0 ∷ 0 ∷ []
unfolding kept spots room turns touched room_before
rooms-behind = refl

-- a node that is full is passed over: page 7 goes to node 0, and none is left for page 8
one-left : map (bound_spots touched spots (λ node. if node == 0 then 2 else 0))
    (range_with_len 7 2) ≡ Stated 0 ∷ Nowhere ∷ []
unfolding kept spots turns touched room_before
one-left = refl

-- ---- one page

nowhere-takes : map (room_moved room 0 Nowhere) (0 ∷ 1 ∷ []) ≡ 1 ∷ 1 ∷ []
unfolding room
nowhere-takes = refl

moved-gives_back : map (room_moved room 0 (Stated 1)) (0 ∷ 1 ∷ []) ≡ 1 ∷ 2 ∷ []
unfolding room
moved-gives_back = refl

nowhere-no_room : room_cause (λ node. 0) 1 Nowhere ≡ Some NoRoom
nowhere-no_room = refl

-- ---- between two moments

came : room_between 5 1 4 ≡ 2
came = refl

left : room_between 5 4 1 ≡ 8
left = refl

-- more than find room: none is left
came-more : room_between 5 1 9 ≡ 0
came-more = refl

endless-stays : room_between endless 1 4 ≡ endless
endless-stays = refl
