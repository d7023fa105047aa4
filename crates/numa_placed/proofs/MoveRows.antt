-- Worked examples: where pages go, and why they don't.
use Rattle.std.proofs.Common.{◌≡◌, ℕ, Bool, true, false, List, [], ◌∷◌, map, Some, None, refl}
use Rattle.std.specs.Prelude.{◌==◌, not, if◌then◌else◌}
use Rattle.std.specs.List.{range_with_len}
use Rattle.std.specs.Option.{option_map_or}
use Rattle.numa_mask.specs.NodeSet.{set_of, members}
use Rattle.numa_machine.specs.Machine.{Hardware}
use Rattle.numa_space.proofs.Rows.{flat}
use Rattle.numa_placed.specs.Moves.{moved_node, moved_spot, goes, goes_from}
use Rattle.numa_placed.specs.Refusals.{state_cause, migrate_cause, move_cause}
use Rattle.numa_requests.specs.PageErrors.{move_errno_of}
use Rattle.numa_placed.specs.Spots.{changed_spots, stated_spots, forgotten_spot}
use Rattle.numa_placed.specs.declared.spot.Spot.{Spot}
use Rattle.numa_placed.specs.declared.spot.Spot.TheVariants.{Nowhere, Stated}
use Rattle.numa_requests.specs.declared.page_refusal.PlacedRefusal.TheVariants.{Unaligned}
use Rattle.numa_requests.specs.declared.page_refusal.PlacedRefusal.TheVariants.{OutOfSpace}
use Rattle.numa_requests.specs.declared.page_refusal.PlacedRefusal.TheVariants.{NoSuchNode}
use Rattle.numa_requests.specs.declared.page_refusal.PlacedRefusal.TheVariants.{NodesNotAllowed}

-- where the pages of some nodes go
gone : List ℕ → List ℕ → List ℕ → List ℕ
gone old new nodes = map (moved_node (set_of old) (set_of new)) nodes

-- ---- which node (mm/mempolicy.c, do_migrate_pages)

-- as many nodes as before: the pages of each move, although two of the nodes stay
as_many-all_move : gone (2 ∷ 3 ∷ 4 ∷ []) (3 ∷ 4 ∷ 5 ∷ []) (2 ∷ 3 ∷ 4 ∷ []) ≡ 3 ∷ 4 ∷ 5 ∷ []
unfolding members gone
as_many-all_move = refl

-- fewer nodes than before: only the pages of those move that don't stay, and they wrap
fewer-others_move : gone (range_with_len 0 8) (3 ∷ 4 ∷ 5 ∷ []) (range_with_len 0 8)
    ≡ 3 ∷ 4 ∷ 5 ∷ 3 ∷ 4 ∷ 5 ∷ 3 ∷ 4 ∷ []
unfolding members gone
fewer-others_move = refl

-- more nodes than before: what stays stays, and no page goes to the added node
more-none_move : gone (0 ∷ 1 ∷ []) (0 ∷ 1 ∷ 2 ∷ []) (0 ∷ 1 ∷ []) ≡ 0 ∷ 1 ∷ []
unfolding members gone
more-none_move = refl

-- two sets without a common node, and one node for two
apart-all_move : gone (0 ∷ 1 ∷ []) (2 ∷ 3 ∷ []) (0 ∷ 1 ∷ 2 ∷ 3 ∷ []) ≡ 2 ∷ 3 ∷ 2 ∷ 3 ∷ []
unfolding members gone
apart-all_move = refl

two-to_one : gone (0 ∷ 1 ∷ []) (2 ∷ []) (0 ∷ 1 ∷ []) ≡ 2 ∷ 2 ∷ []
unfolding members gone
two-to_one = refl

-- the same set, and a set without nodes: nothing moves
same-none_move : gone (1 ∷ 3 ∷ []) (1 ∷ 3 ∷ []) (0 ∷ 1 ∷ 2 ∷ 3 ∷ []) ≡ 0 ∷ 1 ∷ 2 ∷ 3 ∷ []
unfolding members gone
same-none_move = refl

empty-none_move : gone (1 ∷ 3 ∷ []) [] (0 ∷ 1 ∷ 2 ∷ 3 ∷ []) ≡ 0 ∷ 1 ∷ 2 ∷ 3 ∷ []
unfolding members gone
empty-none_move = refl

-- ---- one page

-- from nodes 0 and 1 to node 2
away : ℕ → ℕ
away = moved_node 3 4

page-moves : moved_spot away (Stated 1) ≡ Stated 2
unfolding members away
page-moves = refl

page-counts : goes away (Stated 1) ≡ true
unfolding members away
page-counts = refl

page-counts_once : map (λ node. goes_from away node (Stated 1)) (0 ∷ 1 ∷ 2 ∷ [])
    ≡ false ∷ true ∷ false ∷ []
unfolding members away
page-counts_once = refl

-- ---- stating and forgetting

-- pages 4 to 7, of which 5 lies on node 1 and 7 on node 2, and 6 isn't mapped
spots : ℕ → Spot
spots page = if page == 5 then Stated 1 else if page == 7 then Stated 2 else Nowhere

mapped : ℕ → Bool
mapped page = not (page == 6)

stated-passes_over : map (stated_spots mapped 4 3 0 spots) (range_with_len 3 5)
    ≡ Nowhere ∷ Stated 0 ∷ Stated 0 ∷ Nowhere ∷ Stated 2 ∷ []
unfolding spots mapped
stated-passes_over = refl

forgotten-in_the_span : map (changed_spots 4 2 forgotten_spot spots) (range_with_len 4 4)
    ≡ Nowhere ∷ Nowhere ∷ Nowhere ∷ Stated 2 ∷ []
unfolding spots
forgotten-in_the_span = refl

no-pages : map (stated_spots mapped 7 0 0 spots) (7 ∷ []) ≡ Stated 2 ∷ []
unfolding spots mapped
no-pages = refl

-- ---- refusals

state-unaligned_first : state_cause (flat 2) 0x10001 0x1000 7 ≡ Some Unaligned
state-unaligned_first = refl

state-past_the_end : state_cause (flat 2) 0x7ffffffff000 0x1001 0 ≡ Some OutOfSpace
state-past_the_end = refl

state-no_such_node : state_cause (flat 2) 0x10000 0x1000 2 ≡ Some NoSuchNode
state-no_such_node = refl

-- four nodes of which one has no memory
gap : Hardware
gap = record (flat 4) { memory = 11 }

state-node_without_memory : state_cause gap 0x10000 0x1000 2 ≡ Some NoSuchNode
unfolding gap
state-node_without_memory = refl

state-accepted : state_cause gap 0x10000 0x1000 3 ≡ None
unfolding gap
state-accepted = refl

-- migrate_pages(2): EINVAL where none of the new nodes is one that is allowed
migrate-none_allowed : migrate_cause 3 4 ≡ Some NodesNotAllowed
migrate-none_allowed = refl

migrate-some_allowed : migrate_cause 3 6 ≡ None
migrate-some_allowed = refl

-- move_pages(2): ENODEV before EACCES before EFAULT before ENOENT
moved_to : ℕ → ℕ → ℕ → ℕ
moved_to page node allowed = option_map_or move_errno_of
    (move_cause gap allowed node (mapped page) (spots page)) 0

move-no_device : moved_to 6 2 1 ≡ 19
unfolding moved_to gap
move-no_device = refl

move-not_allowed : moved_to 6 1 1 ≡ 13
unfolding moved_to gap
move-not_allowed = refl

move-not_mapped : moved_to 6 1 3 ≡ 14
unfolding moved_to gap mapped
move-not_mapped = refl

move-not_there : moved_to 4 1 3 ≡ 2
unfolding moved_to gap mapped spots
move-not_there = refl

move-accepted : moved_to 7 1 3 ≡ 0
unfolding moved_to gap mapped spots
move-accepted = refl
