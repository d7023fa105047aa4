-- Pools that grow and shrink to a number of pages, in turn on some nodes.
use Rattle.std.specs.Prelude.{ℕ, ◌+◌, ◌-◌, ◌||◌, Bool, List, if◌then◌else◌, map, max, min, nat_le}
use Rattle.std.specs.Prelude.{nat_lt, sum, Option, Some, None}
use Rattle.numa_mask.specs.NodeSet.{with_node}
use Rattle.numa_pools.specs.declared.refusal.PoolRefusal.{PoolRefusal}
use Rattle.numa_pools.specs.declared.refusal.PoolRefusal.TheVariants.{NoSuchNode, Unsure}
use Rattle.numa_pools.specs.declared.shares.Shares.{Shares}
use Rattle.numa_pools.specs.Turns.{in_turn, less, on, plus}
use Rattle.numa_pools.specs.Pools.{PoolCounts, lasting, most, surplus_at, total_at, used}

-- ---- more pages: surplus pages become lasting, then fresh ones come

abbrev pub adopting : PoolCounts → Shares → PoolCounts
adopting pools shares = record pools {
  surplus = less pools.surplus shares.taken;
  grow = shares.mark;
}

-- surplus pages of the nodes become lasting, as long as there are too few lasting ones
abbrev pub adopt : ℕ → ℕ → PoolCounts → PoolCounts
adopt nodes goal pools = adopting pools
    (in_turn (min (goal - lasting pools) (sum pools.surplus)) nodes pools.grow pools.surplus)

abbrev pub adding : PoolCounts → Shares → PoolCounts
adding pools shares = record pools {
  total = plus pools.total shares.taken;
  free = plus pools.free shares.taken;
  grow = shares.mark;
}

-- how many pages fit on each node beside those that are there
abbrev pub left_of : List ℕ → List ℕ
left_of total = map (λ pages. most - pages) total

-- fresh pages come on the nodes that the writer is allowed, as long as there are too few
abbrev pub add_fresh : ℕ → ℕ → ℕ → PoolCounts → PoolCounts
add_fresh nodes allowed goal pools = adding pools
    (in_turn (goal - lasting pools) nodes pools.grow (on allowed (left_of pools.total)))

-- ---- fewer pages: free pages go, then others become surplus

abbrev pub dropping : PoolCounts → Shares → PoolCounts
dropping pools shares = record pools {
  total = less pools.total shares.taken;
  free = less pools.free shares.taken;
  shrink = shares.mark;
}

-- free pages of the nodes go, as long as there are too many, and more than used and reserved ones
abbrev pub drop_free : ℕ → ℕ → PoolCounts → PoolCounts
drop_free nodes goal pools = dropping pools
    (in_turn (lasting pools - max goal (used pools + pools.reserved)) nodes pools.shrink pools.free)

abbrev pub calling : PoolCounts → Shares → PoolCounts
calling pools shares = record pools {
  surplus = plus pools.surplus shares.taken;
  shrink = shares.mark;
}

-- pages of the nodes become surplus, as long as there are too many
abbrev pub call_surplus : ℕ → ℕ → PoolCounts → PoolCounts
call_surplus nodes goal pools = calling pools
    (in_turn (lasting pools - goal) nodes pools.shrink (less pools.total pools.surplus))

-- ---- both

-- the pools after their lasting pages were to become as many, on these nodes, by someone who is
-- allowed those nodes
unfoldable pub resized : ℕ → ℕ → ℕ → PoolCounts → PoolCounts
resized nodes allowed goal pools = call_surplus nodes goal
    (drop_free nodes goal (add_fresh nodes allowed goal (adopt nodes goal pools)))

-- ---- one node

-- the lasting pages of a node
abbrev pub lasting_at : PoolCounts → ℕ → ℕ
lasting_at pools node = total_at pools node - surplus_at pools node

-- Linux 6.12 subtracts from a number of pages more than it has, and takes all memory then, however
-- few pages the node is to have: it has more surplus pages than pages, or so have the others
abbrev pub is_unsure : PoolCounts → ℕ → Bool
is_unsure pools node = nat_lt (total_at pools node) (surplus_at pools node)
    || nat_lt (lasting pools) (lasting_at pools node)

-- how many pages are to last in all, where a node is to have so many
abbrev pub goal_for : PoolCounts → ℕ → ℕ → ℕ
goal_for pools node count = count + lasting pools - lasting_at pools node

-- why a node's pool isn't resized, where the machine has so many nodes. A node without memory has
-- a pool too: no page comes to it, and it takes its turns
abbrev pub node_refusal : ℕ → PoolCounts → ℕ → ℕ → Option PoolRefusal
node_refusal nodes pools node count =
    if nat_le nodes node then Some NoSuchNode
    else if is_unsure pools node then Some Unsure else None

-- the pools after a node's lasting pages were to become as many
abbrev pub resized_node : ℕ → ℕ → ℕ → PoolCounts → PoolCounts
resized_node node allowed count pools =
    resized (with_node 0 node) allowed (goal_for pools node count) pools
