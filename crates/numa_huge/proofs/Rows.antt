-- Worked examples: what two kernels answered (6.12 and 6.1), one line after the other, and some
-- that were reckoned by hand. The pages have the numbers of their addresses.
use Rattle.std.proofs.Common.{◌≡◌, ℕ, zero, suc, true, false, Some, None, List, [], ◌∷◌}
use Rattle.std.proofs.Common.{Option, refl}
use Rattle.numa_ranges.specs.Counts.{count_pages}
use Rattle.numa_ranges.specs.Maps.{any_page}
use Rattle.numa_pools.specs.Turns.{in_turn, on, ring, turn}
use Rattle.numa_mode.specs.Policy.{PolicyRecord}
use Rattle.numa_mode.specs.declared.modes.NodeFlag.TheVariants.{Plain}
use Rattle.numa_mode.specs.declared.modes.Mode.TheVariants.{PreferredMany}
use Rattle.numa_pools.specs.Pools.{PoolCounts, freeing_one, moving_one, renewing}
use Rattle.numa_huge.specs.Huge.{HugeLying, faulting, fits, freeing_below, giver_for, has_huge}
use Rattle.numa_huge.specs.Huge.{mapping, node_of, unmapping, with_page}
use Rattle.numa_huge.specs.Moves.{HugeWalk, goal, moved_to, named_by, sent_pages, walk_from}
use Rattle.numa_huge.specs.declared.spot.HugeSpot.{HugeSpot}
use Rattle.numa_huge.specs.declared.spot.HugeSpot.TheVariants.{On}

-- four nodes with memory, which have so many pages in all, so many of them free, and so many
-- surplus
abbrev pools_with : List ℕ → List ℕ → List ℕ → ℕ → ℕ → ℕ → PoolCounts
pools_with total free surplus reserved grow shrink = record {
  memory = 15;
  total = total;
  free = free;
  surplus = surplus;
  reserved = reserved;
  grow = grow;
  shrink = shrink;
}

abbrev four : ℕ → ℕ → ℕ → ℕ → List ℕ
four a b c d = a ∷ b ∷ c ∷ d ∷ []

-- `pool 0 3`, `pool 1 2`, `pool 3 4`
abbrev begun : HugeLying
begun = record {
  pools = pools_with (four 3 2 0 4) (four 3 2 0 4) (four 0 0 0 0) 0 3 0;
  spots = λ page. None;
}

-- ---- `map 0x240000000 0x600000 0 huge 1`: the pages from 4608 on; two are touched by a CPU of
-- node 3

abbrev mapped : HugeLying
mapped = mapping 4608 3 true begun

map-fits : fits begun.spots 4608 3 ≡ true
unfolding any_page
map-fits = refl

map-is_there : has_huge mapped.spots 4610 1 ≡ true
unfolding any_page
map-is_there = refl

map-overlaps : fits mapped.spots 4610 2 ≡ false
unfolding any_page
map-overlaps = refl

map-above : fits begun.spots 67108863 2 ≡ false
unfolding any_page
map-above = refl

first-touch : giver_for mapped 4608 (four 3 2 1 0) ≡ Some 3
first-touch = refl

abbrev touched : HugeLying
touched = with_page 4609 3 (with_page 4608 3 mapped)

touched-pools : touched.pools ≡ pools_with (four 3 2 0 4) (four 3 2 0 2) (four 0 0 0 0) 1 3 0
touched-pools = refl

touched-lies : node_of (touched.spots 4609) ≡ Some 3
touched-lies = refl

untouched-lies : node_of (touched.spots 4610) ≡ None
untouched-lies = refl

-- ---- a page of node 3 is unmapped, and one that wasn't touched: it becomes free, and one
-- reservation is given back

abbrev unmapped : HugeLying
unmapped = unmapping 4609 2 touched

unmapped-pools : unmapped.pools ≡ pools_with (four 3 2 0 4) (four 3 2 0 3) (four 0 0 0 0) 0 3 0
unfolding count_pages freeing_below freeing_one in_turn on ring turn
unmapped-pools = refl

unmapped-gone : has_huge unmapped.spots 4609 2 ≡ false
unfolding any_page
unmapped-gone = refl

-- ---- a mapping without reservations, bound to node 1 where one page is left, which isn't reserved

abbrev bare : HugeLying
bare = mapping 4992 5 false (record {
  pools = pools_with (four 3 2 0 4) (four 1 1 0 1) (four 0 0 0 0) 1 3 0;
  spots = λ page. None;
})

bare-first : giver_for bare 4992 (1 ∷ []) ≡ Some 1
bare-first = refl

bare-second : giver_for (faulting (Some 1) 4992 bare) 4993 (1 ∷ []) ≡ None
bare-second = refl

bare-reserves_nothing : bare.pools.reserved ≡ 1
bare-reserves_nothing = refl

-- ---- `mbind 0x240000000 0x400000 bind:1 move 1 0`: two pages on node 0 go to node 1, where two
-- are free

abbrev two_on : ℕ → ℕ → Option HugeSpot
two_on node zero = Some (On node)
two_on node (suc zero) = Some (On node)
two_on node (suc (suc page)) = None

abbrev on_0 : HugeLying
on_0 = record {
  pools = pools_with (four 2 2 0 0) (four 0 2 0 0) (four 0 0 0 0) 0 1 0;
  spots = two_on 0;
}

abbrev on_1 : HugeWalk
on_1 = sent_pages 2 (λ page. 1 ∷ []) 0 2 (walk_from on_0)

moved-two : on_1.told.moved ≡ 2
unfolding sent_pages moving_one freeing_one
moved-two = refl

left-none : on_1.told.left ≡ 0
unfolding sent_pages moving_one freeing_one
left-none = refl

moved-pools : on_1.huge.pools ≡ pools_with (four 2 2 0 0) (four 2 0 0 0) (four 0 0 0 0) 0 1 0
unfolding sent_pages moving_one freeing_one
moved-pools = refl

moved-lies : node_of (on_1.huge.spots 1) ≡ Some 1
unfolding sent_pages moving_one freeing_one
moved-lies = refl

-- and then to node 2, where none is: pages of the total change nodes
abbrev on_2 : HugeWalk
on_2 = sent_pages 4 (λ page. 2 ∷ []) 0 2 (walk_from on_1.huge)

carried-pools : on_2.huge.pools ≡ pools_with (four 2 0 2 0) (four 2 0 0 0) (four 0 0 0 0) 0 1 0
unfolding sent_pages moving_one freeing_one
carried-pools = refl

-- a page that has no list stays
nowhere-to_go : (sent_pages 4 (λ page. []) 0 2 (walk_from on_0)).told.left ≡ 2
unfolding sent_pages
nowhere-to_go = refl

-- of a list the first node with a free page serves, though another stands before it
free-page-serves : goal on_0.pools (2 ∷ 1 ∷ []) ≡ Some 1
free-page-serves = refl

no-free-page : goal on_0.pools (2 ∷ 3 ∷ []) ≡ Some 2
no-free-page = refl

-- `many`: a free page of a node that it doesn't name serves none that moves. Here node 0 has a free
-- page, and node 1, which the policy names, none: the page goes to node 1, and its place with it
-- (`mbind .. many:1 move`)
abbrev preferring : ℕ → PolicyRecord
preferring nodes = record {
  spec = record { mode = PreferredMany; flag = Plain; mask = nodes };
  effective = nodes;
  home = None;
  of_object = false;
}

named-alone : named_by (Some (preferring 2)) (1 ∷ 0 ∷ []) ≡ 1 ∷ []
named-alone = refl

abbrev one_free : HugeLying
one_free = record {
  pools = pools_with (four 2 1 0 0) (four 1 0 0 0) (four 0 0 0 0) 0 1 0;
  spots = two_on 0;
}

to-named : goal one_free.pools (named_by (Some (preferring 2)) (1 ∷ 0 ∷ [])) ≡ Some 1
to-named = refl

-- where none of its nodes is allowed any more, the page stays
named-none : named_by (Some (preferring 4)) (1 ∷ 0 ∷ []) ≡ []
named-none = refl

-- by another policy, or none, all nodes of the list are asked
named-all : named_by None (1 ∷ 0 ∷ []) ≡ 1 ∷ 0 ∷ []
named-all = refl

-- ---- `mbind .. local move` of a page on node 0: there a free page takes its place, and the old
-- one ends, since the node has surplus

abbrev one_on : ℕ → Option HugeSpot
one_on zero = Some (On 0)
one_on (suc page) = None

abbrev with_surplus : HugeLying
with_surplus = record {
  pools = pools_with (four 2 1 0 0) (four 1 0 0 0) (four 1 0 0 0) 0 1 0;
  spots = one_on;
}

abbrev renewed : HugeWalk
renewed = sent_pages 0 (λ page. 0 ∷ 1 ∷ []) 0 1 (walk_from with_surplus)

renewed-pools : renewed.huge.pools ≡ pools_with (four 1 1 0 0) (four 0 0 0 0) (four 0 0 0 0) 0 1 0
unfolding sent_pages renewing freeing_one
renewed-pools = refl

renewed-lies : node_of (renewed.huge.spots 0) ≡ Some 0
unfolding sent_pages renewing
renewed-lies = refl

-- it isn't told as moved
renewed-moved : renewed.told.moved ≡ 0
unfolding sent_pages renewing
renewed-moved = refl

-- move_pages(2) leaves it alone
unmoved-pools : (moved_to (with_surplus.spots 0) 0 0 with_surplus).pools ≡ with_surplus.pools
unmoved-pools = refl

-- ---- `move 0x0 2`

abbrev alone : HugeLying
alone = moved_to (on_0.spots 0) 0 2 on_0

alone-pools : alone.pools ≡ pools_with (four 1 2 1 0) (four 0 2 0 0) (four 0 0 0 0) 0 1 0
unfolding moving_one
alone-pools = refl

other-stays : node_of (alone.spots 1) ≡ Some 0
other-stays = refl

-- from node 0 to node 1 two went
moved-flow : on_1.told.flow 0 1 ≡ 2
unfolding sent_pages moving_one freeing_one
moved-flow = refl
