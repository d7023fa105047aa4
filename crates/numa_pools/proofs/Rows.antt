-- Worked examples: what two kernels answered (6.12 and 6.1), one line after the other.
use Rattle.std.proofs.Common.{◌≡◌, ℕ, true, false, Some, None, List, [], ◌∷◌, refl}
use Rattle.numa_pools.specs.Turns.{in_turn, on, ring, turn}
use Rattle.numa_pools.specs.Pools.{PoolCounts, freeing_one, giver, lacks_pages, moving_one}
use Rattle.numa_pools.specs.Pools.{refusing, reserving, taking}
use Rattle.numa_pools.specs.Resize.{resized, resized_node}

-- four nodes with memory, which have so many pages in all, so many free and so many surplus ones
abbrev pub pools_with : List ℕ → List ℕ → List ℕ → ℕ → ℕ → ℕ → PoolCounts
pools_with total free surplus reserved grow shrink = record {
  memory = 15;
  total = total;
  free = free;
  surplus = surplus;
  reserved = reserved;
  grow = grow;
  shrink = shrink;
}

abbrev pub four : ℕ → ℕ → ℕ → ℕ → List ℕ
four a b c d = a ∷ b ∷ c ∷ d ∷ []

abbrev none : PoolCounts
none = pools_with (four 0 0 0 0) (four 0 0 0 0) (four 0 0 0 0) 0 0 0

-- ---- `pool 0 3`, `pool 1 2`, `pool 3 4`

abbrev first_pool : PoolCounts
first_pool = pools_with (four 3 0 0 0) (four 3 0 0 0) (four 0 0 0 0) 0 0 0

pool-0 : resized_node 0 15 3 none ≡ first_pool
unfolding resized in_turn on ring turn
pool-0 = refl

abbrev second_pool : PoolCounts
second_pool = pools_with (four 3 2 0 0) (four 3 2 0 0) (four 0 0 0 0) 0 1 0

pool-1 : resized_node 1 15 2 first_pool ≡ second_pool
unfolding resized in_turn on ring turn
pool-1 = refl

abbrev third_pool : PoolCounts
third_pool = pools_with (four 3 2 0 4) (four 3 2 0 4) (four 0 0 0 0) 0 3 0

pool-3 : resized_node 3 15 4 second_pool ≡ third_pool
unfolding resized in_turn on ring turn
pool-3 = refl

-- ---- a mapping of 4 pages by a task bound to node 0 finds too few there, one of 3 doesn't

too-few-on_0 : lacks_pages third_pool 4 1 ≡ true
unfolding on
too-few-on_0 = refl

refused-changes-nothing : refusing third_pool 4 ≡ third_pool
unfolding resized in_turn on ring turn
refused-changes-nothing = refl

enough-on_0 : lacks_pages third_pool 3 1 ≡ false
unfolding on
enough-on_0 = refl

-- ---- two touches of a CPU of node 3, without a policy, by reservations

abbrev mapped : PoolCounts
mapped = reserving third_pool 3

touched-first : giver mapped (four 3 2 1 0) true ≡ Some 3
touched-first = refl

abbrev touched : PoolCounts
touched = taking (taking mapped 3 true) 3 true

touched-twice : touched ≡ pools_with (four 3 2 0 4) (four 3 2 0 2) (four 0 0 0 0) 1 3 0
touched-twice = refl

-- ---- four pages more, touched under interleave 0,1,3: nodes 0, 1, 3, 0

enough-on-all : lacks_pages touched 4 15 ≡ false
unfolding on
enough-on-all = refl

abbrev interleaved : PoolCounts
interleaved = taking (taking (taking (taking (reserving touched 4) 0 true) 1 true) 3 true) 0 true

interleaved-are : interleaved ≡ pools_with (four 3 2 0 4) (four 1 1 0 1) (four 0 0 0 0) 1 3 0
interleaved-are = refl

-- ---- a mapping without reservations, bound to node 1: one page is left there

unreserved-first : giver interleaved (1 ∷ []) false ≡ Some 1
unreserved-first = refl

unreserved-second : giver (taking interleaved 1 false) (1 ∷ []) false ≡ None
unreserved-second = refl

-- where as many are reserved as are free, nothing is given without a reservation
all-reserved : giver (pools_with (four 3 0 0 0) (four 2 0 0 0) (four 0 0 0 0) 2 0 0) (0 ∷ []) false
    ≡ None
all-reserved = refl

by-reservation : giver (pools_with (four 3 0 0 0) (four 2 0 0 0) (four 0 0 0 0) 2 0 0) (0 ∷ []) true
    ≡ Some 0
by-reservation = refl

-- ---- counts move with pages: two pages on node 0 go to node 1, where two are free, and then to 2

abbrev on_0 : PoolCounts
on_0 = pools_with (four 2 2 0 0) (four 0 2 0 0) (four 0 0 0 0) 0 1 0

abbrev on_1 : PoolCounts
on_1 = pools_with (four 2 2 0 0) (four 2 0 0 0) (four 0 0 0 0) 0 1 0

moved-to_1 : moving_one (moving_one on_0 0 1) 0 1 ≡ on_1
unfolding moving_one freeing_one
moved-to_1 = refl

moved-to_2 : moving_one (moving_one on_1 1 2) 1 2
    ≡ pools_with (four 2 0 2 0) (four 2 0 0 0) (four 0 0 0 0) 0 1 0
unfolding moving_one freeing_one
moved-to_2 = refl

-- ---- nr_hugepages_mempolicy: `pool 6` under bind 1,3, then 8 and 3 under prefer 2

abbrev six : PoolCounts
six = pools_with (four 0 3 0 3) (four 0 3 0 3) (four 0 0 0 0) 0 1 0

pool-of_task : resized 10 15 6 none ≡ six
unfolding resized in_turn on ring turn
pool-of_task = refl

abbrev eight : PoolCounts
eight = pools_with (four 0 3 2 3) (four 0 3 2 3) (four 0 0 0 0) 0 2 0

pool-of_node : resized 4 15 8 six ≡ eight
unfolding resized in_turn on ring turn
pool-of_node = refl

fewer-of_node : resized 4 15 3 eight ≡ pools_with (four 0 3 0 3) (four 0 3 0 3) (four 0 0 0 0) 0 2 2
unfolding resized in_turn on ring turn
fewer-of_node = refl
