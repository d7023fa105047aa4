-- Pools of pages of 2 MiB, one on each node with memory, as the hugetlb of Linux keeps them. All
-- numbers are of pages of 2 MiB.
use Rattle.std.specs.Prelude.{ℕ, zero, suc, ◌+◌, ◌-◌, ◌&&◌, ◌||◌, Bool, List, [], ◌∷◌, Option}
use Rattle.std.specs.Prelude.{Some, None, if◌then◌else◌, min, nat_lt, replicate, set, slice_index}
use Rattle.std.specs.Prelude.{sum}
use Rattle.numa_mask.specs.NodeSet.{members}
use Rattle.numa_pools.specs.declared.shares.Shares.{Shares}
use Rattle.numa_pools.specs.Turns.{in_turn, least, less, on, one_less_at}

-- of each node how many pages there are, how many of them are free, and how many are surplus: those
-- go when they become free. How many free pages are reserved, for mappings that haven't yet touched
-- them. And two marks, the nodes that are next in turn to grow and to shrink.
pub record PoolCounts : Type 0 where
  pub memory : ℕ
  pub total : List ℕ
  pub free : List ℕ
  pub surplus : List ℕ
  pub reserved : ℕ
  pub grow : ℕ
  pub shrink : ℕ

-- as many zeros as there can be nodes
unfoldable pub zeros : List ℕ
zeros = replicate 256 0

-- the first node with memory
unfoldable pub first_of : ℕ → ℕ
first_of memory = slice_index (members memory) 0

-- no pages yet; both marks are on the first node with memory
abbrev pub no_pages : ℕ → PoolCounts
no_pages memory = record {
  memory = memory;
  total = zeros;
  free = zeros;
  surplus = zeros;
  reserved = 0;
  grow = first_of memory;
  shrink = first_of memory;
}

abbrev pub total_at : PoolCounts → ℕ → ℕ
total_at pools node = slice_index pools.total node

abbrev pub free_at : PoolCounts → ℕ → ℕ
free_at pools node = slice_index pools.free node

abbrev pub surplus_at : PoolCounts → ℕ → ℕ
surplus_at pools node = slice_index pools.surplus node

-- the pages of a node that processes have, and those of all nodes
abbrev pub used_at : PoolCounts → ℕ → ℕ
used_at pools node = total_at pools node - free_at pools node

abbrev pub used : PoolCounts → ℕ
used pools = sum pools.total - sum pools.free

-- the pages that stay when they become free
abbrev pub lasting : PoolCounts → ℕ
lasting pools = sum pools.total - sum pools.surplus

-- the free pages that are not reserved
abbrev pub unreserved : PoolCounts → ℕ
unreserved pools = sum pools.free - pools.reserved

-- one more at a node
abbrev pub one_more_at : List ℕ → ℕ → List ℕ
one_more_at xs node = set xs node (slice_index xs node + 1)

-- ---- a mapping

-- there are too few pages for a mapping of so many: too few unreserved ones, or too few free ones
-- on the nodes that the mapper's pages may come from
abbrev pub lacks_pages : PoolCounts → ℕ → ℕ → Bool
lacks_pages pools pages nodes =
    nat_lt (unreserved pools) pages || nat_lt (sum (on nodes pools.free)) pages

-- a mapping reserves its pages
abbrev pub reserving : PoolCounts → ℕ → PoolCounts
reserving pools pages = record pools { reserved = pools.reserved + pages }

-- the shares of nodes in the free surplus pages that end
abbrev pub ending : PoolCounts → Shares → PoolCounts
ending pools shares = record pools {
  total = less pools.total shares.taken;
  free = less pools.free shares.taken;
  surplus = less pools.surplus shares.taken;
  shrink = shares.mark;
}

-- so many free surplus pages end, in turn on all nodes with memory, as far as there are
abbrev pub end_surplus : PoolCounts → ℕ → PoolCounts
end_surplus pools pages = ending pools
    (in_turn (min pages (sum pools.surplus)) pools.memory pools.shrink
    (least pools.surplus pools.free))

-- reservations are given back: as many free surplus pages end
abbrev pub giving_back : PoolCounts → ℕ → PoolCounts
giving_back pools pages = end_surplus (record pools { reserved = pools.reserved - pages }) pages

-- a mapping that finds too few free pages on its nodes has reserved, and gives back
abbrev pub refusing : PoolCounts → ℕ → PoolCounts
refusing pools pages =
    if nat_lt (unreserved pools) pages then pools else giving_back (reserving pools pages) pages

-- ---- a first touch

-- the first node of a list with a free page
abbrev pub first_free : List ℕ → List ℕ → Option ℕ
first_free free [] = None
first_free free (node ∷ nodes) =
    if nat_lt 0 (slice_index free node) then Some node else first_free free nodes

-- whether a page may be taken, by a reservation or without one: a free page is left that isn't
-- reserved for others
abbrev pub may_give : PoolCounts → Bool → Bool
may_give pools by_reservation = by_reservation || nat_lt pools.reserved (sum pools.free)

-- the node that gives the page, where the nodes of a list are asked
abbrev pub giver : PoolCounts → List ℕ → Bool → Option ℕ
giver pools nodes by_reservation =
    if may_give pools by_reservation then first_free pools.free nodes else None

-- a node's page is taken; a reservation, if it came by one, is used up
abbrev pub taking : PoolCounts → ℕ → Bool → PoolCounts
taking pools node by_reservation = record pools {
  free = one_less_at pools.free node;
  reserved = if by_reservation then pools.reserved - 1 else pools.reserved;
}

abbrev pub taken_from : PoolCounts → Option ℕ → Bool → PoolCounts
taken_from pools None by_reservation = pools
taken_from pools (Some node) by_reservation = taking pools node by_reservation

-- ---- a page that becomes free

-- where its node has surplus, the page ends and is surplus no more; else it is free
unfoldable pub freeing_one : PoolCounts → ℕ → PoolCounts
freeing_one pools node =
    if nat_lt 0 (surplus_at pools node)
    then record pools {
      total = one_less_at pools.total node;
      surplus = one_less_at pools.surplus node;
    }
    else record pools { free = one_more_at pools.free node }

-- so many pages of a node, one after the other
abbrev pub freeing : PoolCounts → ℕ → ℕ → PoolCounts
freeing pools node zero = pools
freeing pools node (suc pages) = freeing (freeing_one pools node) node pages

-- ---- a page that moves

-- the most pages of a node: 2^40
abbrev pub most : ℕ
most = 1099511627776

-- a free page of the target serves: one that is not reserved
abbrev pub has_spare : PoolCounts → ℕ → Bool
has_spare pools to = nat_lt pools.reserved (sum pools.free) && nat_lt 0 (free_at pools to)

-- whether a page can move to a node
abbrev pub can_move : PoolCounts → ℕ → Bool
can_move pools to = has_spare pools to || nat_lt (total_at pools to) most

-- one of a node's counts goes to another node
abbrev pub one_over : List ℕ → ℕ → ℕ → List ℕ
one_over xs from to = one_more_at (one_less_at xs from) to

-- one page of the total changes nodes, and a surplus page if there is one
abbrev pub carrying : PoolCounts → ℕ → ℕ → PoolCounts
carrying pools from to = record pools {
  total = one_over pools.total from to;
  surplus = if nat_lt 0 (surplus_at pools from)
      then one_over pools.surplus from to else pools.surplus;
}

-- a page moves from one node to another, if it can. A free page of the target serves, and the old
-- one becomes free; else a page of the total changes nodes
unfoldable pub moving_one : PoolCounts → ℕ → ℕ → PoolCounts
moving_one pools from to =
    if has_spare pools to
    then freeing_one (record pools { free = one_less_at pools.free to }) from
    else if can_move pools to then carrying pools from to else pools

-- a page that moves to its own node: a free page of the node serves, if one is there that is not
-- reserved, and the old one becomes free, or ends
unfoldable pub renewing : PoolCounts → ℕ → PoolCounts
renewing pools node =
    if has_spare pools node
    then freeing_one (record pools { free = one_less_at pools.free node }) node
    else pools
