-- Worked examples: pools that processes share, as two kernels answered (6.12 and 6.1), one line
-- after the other. The pages have the numbers of their addresses.
use Rattle.std.proofs.Common.{◌≡◌, ℕ, true, Some, None, List, [], ◌∷◌, refl}
use Rattle.numa_pools.specs.Pools.{PoolCounts}
use Rattle.numa_huge.specs.Huge.{giver_for, mapping, with_page}
use Rattle.numa_huge.specs.declared.spot.HugeSpot.TheVariants.{Bare, Reserved, On}
use Rattle.numa_host_huge.specs.Sharing.{Sharing, begun_in, forked, given_back, memory_in}

abbrev four : ℕ → ℕ → ℕ → ℕ → List ℕ
four a b c d = a ∷ b ∷ c ∷ d ∷ []

abbrev pools_with : List ℕ → List ℕ → ℕ → PoolCounts
pools_with total free reserved = record {
  memory = 15;
  total = total;
  free = free;
  surplus = four 0 0 0 0;
  reserved = reserved;
  grow = 3;
  shrink = 0;
}

-- `pool 0 3`, `pool 1 2`, `pool 3 4`
abbrev host : Sharing
host = record { pools = pools_with (four 3 2 0 4) (four 3 2 0 4) 0; homes = [] }

-- `in 1 map 0x240000000 0x600000 0 huge 1`: the pages from 4608 on
abbrev mapped : Sharing
mapped = given_back 1 (record (begun_in 1 host) {
  pages = mapping 4608 3 true (begun_in 1 host).pages;
}) host

-- process 2 has mapped nothing, and finds what is reserved for 1
reserved : (begun_in 2 mapped).pages.pools ≡ pools_with (four 3 2 0 4) (four 3 2 0 4) 3
reserved = refl

own : (begun_in 1 mapped).pages.spots 4609 ≡ Some Reserved
own = refl

not-its : memory_in 2 mapped ≡ None
not-its = refl

-- `in 1 fault 1 0x240000000 3`
abbrev touched : Sharing
touched = given_back 1 (record (begun_in 1 mapped) {
  pages = with_page 4608 3 (begun_in 1 mapped).pages;
}) mapped

-- `pool => pool N0=3/3 N1=2/2 N2=0/0 N3=3/4 reserved 2`
used : touched.pools ≡ pools_with (four 3 2 0 4) (four 3 2 0 3) 2
used = refl

-- a page of process 2 without a reservation may take those that aren't reserved
gives : giver_for (begun_in 2 touched).pages 5120 (four 3 2 1 0) ≡ Some 3
gives = refl

-- `fork 1 2 1 1`: the child has mapped these pages, has touched none, and nothing is reserved for
-- it
abbrev born : Sharing
born = forked 1 2 touched

child-first : (begun_in 2 born).pages.spots 4608 ≡ Some Bare
child-first = refl

child-second : (begun_in 2 born).pages.spots 4609 ≡ Some Bare
child-second = refl

child-none : (begun_in 2 born).pages.spots 4611 ≡ None
child-none = refl

parent-first : (begun_in 1 born).pages.spots 4608 ≡ Some (On 3)
parent-first = refl

pools-stay : born.pools ≡ touched.pools
pools-stay = refl

still : (begun_in 2 born).told.moved ≡ 0
still = refl

-- the child touches its first page: it takes one that isn't reserved, its parent's reservations
-- stay
abbrev grown : Sharing
grown = given_back 2 (record (begun_in 2 born) {
  pages = with_page 4608 3 (begun_in 2 born).pages;
}) born

both : grown.pools ≡ pools_with (four 3 2 0 4) (four 3 2 0 2) 2
both = refl

parent-stays : (begun_in 1 grown).pages.spots 4608 ≡ Some (On 3)
parent-stays = refl
