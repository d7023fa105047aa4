-- What the last move of a host did, all its processes together: new nodes of a group
-- (`cgroup-mems`), a process's other group (`attach`), or what one process asked for (`migrate`,
-- `move`, `mbind .. move`). Commands that move nothing leave it as it was; a process that was born
-- since adds nothing to it, and one that ended no more.
use Rattle.std.specs.Prelude.{ℕ, ◌+◌, ◌==◌, Option, Some, None, List, [], ◌∷◌, min}
use Rattle.std.specs.Prelude.{if◌then◌else◌}
use Rattle.numa_page_state.specs.Lying.{LastMove, Lying, OfNodes, OfPages, Sent, Told}
use Rattle.numa_huge.specs.Moves.{HugeMemory}
use Rattle.numa_host_huge.specs.Sharing.{HugeHome, Sharing, memory_in}
use Rattle.numa_host_pages.specs.Homes.{Home, HostLying}

-- the most pages that are told: 2^64 - 1
abbrev pub most : ℕ
most = 18446744073709551615

-- two numbers of pages together, at most as many as are told
abbrev pub both_pages : ℕ → ℕ → ℕ
both_pages one other = min (one + other) most

-- how many pages went from a node to another, where those of each node go to one
abbrev pub flow_told : Told → ℕ → ℕ → ℕ
flow_told told from to = if told.to from == to then told.from from else 0

-- what a move did, by the nodes from which and to which pages went, whichever move it was
abbrev pub sent_last : LastMove → Sent
sent_last (OfNodes told) = record { moved = told.moved; left = told.left; flow = flow_told told }
sent_last (OfPages sent) = sent

-- no page moved
abbrev pub none_sent : Sent
none_sent = record { moved = 0; left = 0; flow = λ from to. 0 }

-- what the last move of a process did; none where it has no pages
abbrev pub sent_of : Option Lying → Sent
sent_of None = none_sent
sent_of (Some lying) = sent_last lying.last

-- two moves together, pair by pair of nodes
abbrev pub both_sent : Sent → Sent → Sent
both_sent one other = record {
  moved = both_pages one.moved other.moved;
  left = both_pages one.left other.left;
  flow = λ from to. both_pages (one.flow from to) (other.flow from to);
}

-- the processes that went along, together
abbrev pub sum_of : List Home → Sent
sum_of [] = none_sent
sum_of (home ∷ homes) =
    if home.along then both_sent (sent_of home.lying) (sum_of homes) else sum_of homes

-- ---- with pages of 2 MiB

-- what the last move did to those of a process; none where it has none
abbrev pub huge_sent : Option HugeMemory → Sent
huge_sent None = none_sent
huge_sent (Some memory) = record {
  moved = memory.told.moved;
  left = memory.told.left;
  flow = memory.told.flow;
}

-- to those of the processes that went along, together
abbrev pub huge_sum : List Home → Sharing → Sent
huge_sum [] huge = none_sent
huge_sum (home ∷ homes) huge = if home.along
    then both_sent (huge_sent (memory_in home.id huge)) (huge_sum homes huge)
    else huge_sum homes huge

-- to pages of both sizes
abbrev pub sum_with : List HugeHome → HostLying → Sent
sum_with [] at = sum_of at.homes
sum_with (one ∷ rest) at = both_sent (sum_of at.homes) (huge_sum at.homes at.huge)

abbrev pub sum_in : HostLying → Sent
sum_in at = sum_with at.huge.homes at
