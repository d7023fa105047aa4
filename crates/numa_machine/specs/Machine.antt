-- The hardware: its nodes, those with memory, the distances between nodes and the frames of each
-- node; and in which order each node falls back to others.
use Rattle.std.specs.Prelude.{ℕ, zero, suc, ◌+◌, ◌*◌, ◌≢◌, ◌↔◌, ◌&&◌, ◌||◌, Bool, IsTrue}
use Rattle.std.specs.Prelude.{List, [], ◌∷◌, fold, nat_lt, ◌==◌, if◌then◌else◌, set, replicate}
use Rattle.std.specs.Prelude.{slice_index, Contains, AllPairs, flat_map}
use Rattle.std.specs.List.{range_with_len}
use Rattle.numa_mask.specs.NodeSet.{has, members}
use Rattle.numa_machine.specs.declared.fallback.Fallback.{Fallback}
use Rattle.numa_machine.specs.declared.fallback.Fallback.TheVariants.{Nearest, Kernel}
use Rattle.numa_machine.specs.declared.rules.Rules.{Rules}
use Rattle.numa_machine.specs.declared.rules.Rules.TheVariants.{Document}

-- a machine as it was described: how many nodes, the set of those with memory, the distances row by
-- row, the frames of each node; whose rules count on it, and whose orders it has
pub record Hardware : Type 0 where
  pub nodes : ℕ
  pub memory : ℕ
  pub distances : List ℕ
  pub frames : List ℕ
  pub rules : Rules
  pub fallback : Fallback

-- a machine by its parts, in this order
abbrev pub described : ℕ → ℕ → List ℕ → List ℕ → Rules → Fallback → Hardware
described nodes memory distances frames rules fallback = record {
  nodes = nodes;
  memory = memory;
  distances = distances;
  frames = frames;
  rules = rules;
  fallback = fallback;
}

-- the entry of a table of distances, row by row, in the row of one node and the column of another
abbrev pub table_entry : ℕ → List ℕ → ℕ → ℕ → ℕ
table_entry nodes table from to = slice_index table (from * nodes + to)

-- how far it is from one node to another, by the first one's row
abbrev pub distance : Hardware → ℕ → ℕ → ℕ
distance hardware from to = table_entry hardware.nodes hardware.distances from to

-- how many frames a node has: none past the last node
abbrev pub frames_of : Hardware → ℕ → ℕ
frames_of hardware node = slice_index hardware.frames node

-- whether node a is nearer than node b, by how far each is: the smaller distance and, at one
-- distance, the lower number
abbrev pub nearer_by : (ℕ → ℕ) → ℕ → ℕ → Bool
nearer_by far a b = nat_lt (far a) (far b) || (far a == far b && nat_lt a b)

abbrev pub nearer : Hardware → ℕ → ℕ → ℕ → Bool
nearer hardware from = nearer_by (distance hardware from)

-- the list has each node with memory and no other node, each once, and of each two the earlier is
-- nearer
pub record IsDistanceOrder (hardware : Hardware) (from : ℕ) (order : List ℕ) : Type 0 where
  pub nodes_with_memory : (node : ℕ) → Contains order node ↔ Contains (members hardware.memory) node
  pub without_repeats : AllPairs (λ earlier later. earlier ≢ later) order
  pub nearest_first : AllPairs (λ earlier later. IsTrue (nearer hardware from earlier later)) order

-- the list with x in front of the first element that x comes before
abbrev pub insert_by : (ℕ → ℕ → Bool) → List ℕ → ℕ → List ℕ
insert_by before [] x = x ∷ []
insert_by before (y ∷ ys) x = if before x y then x ∷ y ∷ ys else y ∷ insert_by before ys x

-- the nodes with memory, those first that cost less
abbrev pub order_by : (ℕ → ℕ) → ℕ → List ℕ
order_by cost memory = fold (insert_by (nearer_by cost)) [] (members memory)

-- the nodes with memory, the nearest first
unfoldable pub distance_order : Hardware → ℕ → List ℕ
distance_order hardware from = order_by (distance hardware from) hardware.memory

abbrev pub one_if : Bool → ℕ
one_if test = if test then 1 else 0

-- what it costs a kernel to go from one node to another: nothing to stay; else the distance, one
-- more to a lower number and one more to a node with CPUs, and after these the load
abbrev pub kernel_cost : Hardware → ℕ → List ℕ → ℕ → ℕ → ℕ
kernel_cost hardware cpus loads from to =
    if to == from then 0
    else (distance hardware from to + one_if (nat_lt to from) + one_if (has cpus to)) * 1024
    + slice_index loads to

-- the turns of a list: its nodes that are not as far as the node before, the first of them not
-- as far as `before`
abbrev pub turns : (ℕ → ℕ) → ℕ → List ℕ → List ℕ
turns far before [] = []
turns far before (node ∷ nodes) =
    if far node == before then turns far (far node) nodes else node ∷ turns far (far node) nodes

-- the loads with one more at a node
abbrev pub one_more_at : List ℕ → ℕ → List ℕ
one_more_at loads node = set loads node (slice_index loads node + 1)

-- how many of the lists that a kernel made for the nodes below this one have a turn at node 0, at
-- node 1, ..
unfoldable pub loads_before : Hardware → ℕ → ℕ → List ℕ
loads_before hardware cpus zero = replicate 256 0
loads_before hardware cpus (suc from) =
    fold one_more_at (loads_before hardware cpus from) (turns (distance hardware from) 10
    (order_by (kernel_cost hardware cpus (loads_before hardware cpus from) from) hardware.memory))

-- the list that a kernel makes for a node, where these nodes have CPUs
unfoldable pub kernel_order : Hardware → ℕ → ℕ → List ℕ
kernel_order hardware cpus from =
    order_by (kernel_cost hardware cpus (loads_before hardware cpus from) from) hardware.memory

-- what the orders of a machine go by: the distance, or what a kernel takes going there to cost
abbrev pub cost_under : Fallback → Hardware → ℕ → ℕ → ℕ
cost_under Nearest hardware from = distance hardware from
cost_under (Kernel cpus) hardware from =
    kernel_cost hardware cpus (loads_before hardware cpus from) from

abbrev pub fallback_cost : Hardware → ℕ → ℕ → ℕ
fallback_cost hardware = cost_under hardware.fallback hardware

-- whether node a comes before node b in the order of a node: at equal cost the lower number does
abbrev pub precedes : Hardware → ℕ → ℕ → ℕ → Bool
precedes hardware from = nearer_by (fallback_cost hardware from)

-- the nodes with memory, in the order in which a node falls back to them
unfoldable pub fallback_order : Hardware → ℕ → List ℕ
fallback_order hardware from = order_by (fallback_cost hardware from) hardware.memory

-- the list has each node with memory and no other node, each once, and of each two the earlier
-- costs less, or as much and has the lower number
pub record IsFallbackOrder (hardware : Hardware) (from : ℕ) (order : List ℕ) : Type 0 where
  pub nodes_with_memory : (node : ℕ) → Contains order node ↔ Contains (members hardware.memory) node
  pub without_repeats : AllPairs (λ earlier later. earlier ≢ later) order
  pub cheapest_first : AllPairs (λ earlier later. IsTrue (precedes hardware from earlier later))
      order

-- the orders of nodes 0, 1, .., one after the other
abbrev pub all_orders : Hardware → List ℕ
all_orders hardware = flat_map (fallback_order hardware) (range_with_len 0 hardware.nodes)

-- the same for machines of which this much is known: neither frames nor rules have a part in it
abbrev pub orders_by_table : ℕ → ℕ → List ℕ → Fallback → List ℕ
orders_by_table nodes memory table fallback =
    all_orders (described nodes memory table [] Document fallback)
