-- The weight of each node, and the node that an index chooses.
use Rattle.std.specs.Prelude.{◌≡◌, ℕ, ◌+◌, ◌-◌, ◌%◌, ◌<◌, ◌≤◌, ◌||◌, List, [], ◌∷◌, nat_lt, nat_le}
use Rattle.std.specs.Prelude.{◌==◌, if◌then◌else◌, slice_index, slice_index_or, sum_by, filter}
use Rattle.std.specs.Prelude.{flat_map, replicate, length, All, Contains, Option, Some, None}
use Rattle.numa_mask.specs.NodeSet.{members, weight_of, ordinal_of}
use Rattle.numa_machine.specs.declared.fault.WeightError.{WeightError}
use Rattle.numa_machine.specs.declared.fault.WeightError.TheVariants.{NoSuchNode, BadWeight}

-- how many nodes there are, and the weight of each
pub record NodeWeights : Type 0 where
  pub nodes : ℕ
  pub weights : List ℕ

-- what the weights of a machine keep: at most 256 nodes, and a weight from 1 to 255 for each of 256
pub record AreWeights (nodes : ℕ) (weights : List ℕ) : Type 0 where
  pub few_nodes : nodes ≤ 256
  pub one_for_each : length weights ≡ 256
  pub in_range : All (λ weight. (1 ≤ weight) × (weight ≤ 255)) weights

-- the weight of a node: 1 where none is stored
abbrev pub weight_at : NodeWeights → ℕ → ℕ
weight_at weights node = slice_index_or weights.weights node 1

-- why a weight is refused
abbrev pub weight_fault : ℕ → ℕ → ℕ → Option WeightError
weight_fault nodes node weight =
    if nat_le nodes node then Some NoSuchNode
    else if weight == 0 || nat_lt 255 weight then Some BadWeight
    else None

-- interleave: the members in turn
unfoldable pub interleave_node : ℕ → ℕ → ℕ
interleave_node set index = slice_index (members set) (index % weight_of set)

-- interleave in words: the member that as many members are below as the index is modulo their
-- number
pub record IsInterleaveNode (set index node : ℕ) : Type 0 where
  pub member : Contains (members set) node
  pub ordinal : ordinal_of set node ≡ index % weight_of set

-- the nodes lie one after the other in blocks, each as long as its weight: the node in whose block
-- the place is
abbrev pub node_at : (ℕ → ℕ) → List ℕ → ℕ → ℕ
node_at weight [] place = 0
node_at weight (node ∷ nodes) place = if nat_lt place (weight node) then node
    else node_at weight nodes (place - weight node)

-- the weights of all members together
unfoldable pub total_weight : (ℕ → ℕ) → ℕ → ℕ
total_weight weight set = sum_by weight (members set)

-- weighted interleave: the member in whose block the index is, modulo the total weight
unfoldable pub weighted_node : (ℕ → ℕ) → ℕ → ℕ → ℕ
weighted_node weight set index = node_at weight (members set) (index % total_weight weight set)

-- the weights of the members below a node
unfoldable pub weight_below : (ℕ → ℕ) → ℕ → ℕ → ℕ
weight_below weight set node = sum_by weight (filter (λ m. nat_lt m node) (members set))

-- weighted interleave in words: the member whose block, after those of the smaller members, has the
-- index modulo the total weight
pub record IsWeightedNode (weight : ℕ → ℕ) (set index node : ℕ) : Type 0 where
  pub member : Contains (members set) node
  pub from_its_block : weight_below weight set node ≤ index % total_weight weight set
  pub before_the_next : index % total_weight weight set < weight_below weight set node + weight node

-- the blocks written out: each member as often as its weight, in rising order
unfoldable pub cycle : (ℕ → ℕ) → ℕ → List ℕ
cycle weight set = flat_map (λ node. replicate (weight node) node) (members set)
