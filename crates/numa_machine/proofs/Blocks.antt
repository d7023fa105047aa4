-- The blocks of weighted nodes in rising order: the node at a place, and the nodes written out.
use Rattle.std.proofs.Common.{◌≡◌, ℕ, zero, suc, ◌+◌, ◌-◌, ◌%◌, ◌<◌, ◌≤◌, true, false, ltb, List}
use Rattle.std.proofs.Common.{length, [], ◌∷◌, filter, sum_by, flat_map, replicate, get_or}
use Rattle.std.proofs.Common.{slice_index, Contains, refl, sym, ap, ◌∙◌, subst, arith, inl, inr}
use Rattle.std.proofs.Common.{mod-lt}
use Rattle.std.proofs.lemmas.Bool.{cases_lt, lt-ltb, le-ltb, ltb-true}
use Rattle.std.proofs.lemmas.List.{length-replicate, get_or-replicate, get_or_append_left}
use Rattle.std.proofs.lemmas.List.{get_or-append_right, get_or_default}
use Rattle.std.proofs.lemmas.List.Concat.{length-flat_map}
use Rattle.std.proofs.lemmas.List.Elements.{Contains-get_or}
use Rattle.std.proofs.lemmas.List.Sums.{sum_by-cons, length-filter}
use Rattle.numa_mask.specs.NodeSet.{members, weight_of, ordinal_of}
use Rattle.numa_machine.specs.Weights.{interleave_node, IsInterleaveNode, node_at, total_weight}
use Rattle.numa_machine.specs.Weights.{weighted_node, weight_below, IsWeightedNode, cycle}
use Rattle.numa_machine.proofs.Rising.{ComesFirst, IsRising, IsIn, Contains-from_IsIn}
use Rattle.numa_machine.proofs.Rising.{IsIn-from_Contains, IsIn-get_or, before_from_ComesFirst}
use Rattle.numa_machine.proofs.Rising.{IsStrictOrder-ltb, IsRising-members}

-- how long the blocks are together
length-blocks : (weight : ℕ → ℕ) (nodes : List ℕ)
    → length (flat_map (λ node. replicate (weight node) node) nodes) ≡ sum_by weight nodes
length-blocks weight nodes =
    length-flat_map (λ node. replicate (weight node) node) nodes
    ∙ ap (λ (f : ℕ → ℕ). sum_by f nodes) (λ i node. length-replicate (weight node) node i)

pub length-cycle : (weight : ℕ → ℕ) (set : ℕ) → length (cycle weight set) ≡ total_weight weight set
unfolding cycle total_weight
length-cycle weight set = length-blocks weight (members set)

-- the place in the blocks holds the node at that place
blocks_at : (weight : ℕ → ℕ) (nodes : List ℕ) (place : ℕ)
    → slice_index (flat_map (λ node. replicate (weight node) node) nodes) place
    ≡ node_at weight nodes place
blocks_at weight [] place = refl
blocks_at weight (node ∷ nodes) place =
    let rest : List ℕ = flat_map (λ n. replicate (weight n) n) nodes in
    let size : length (replicate (weight node) node) ≡ weight node =
    length-replicate (weight node) node in
    elim (cases_lt place (weight node)) [
      | inl l ↦
          let here : ltb place (weight node) ≡ true = lt-ltb place (weight node) l in
          rw here
          (get_or_append_left (replicate (weight node) node)
          (flat_map (λ n. replicate (weight n) n) nodes) 0 place (omega arith)
          ∙ get_or-replicate (weight node) place node 0 l)
      | inr l ↦
          let past : ltb place (weight node) ≡ false = le-ltb place (weight node) l in
          rw past
          (get_or-append_right (replicate (weight node) node)
          (flat_map (λ n. replicate (weight n) n) nodes) (weight node) place 0 size l
          ∙ blocks_at weight nodes (place - weight node))
    ]

pub cycle_at : (weight : ℕ → ℕ) (set index : ℕ)
    → slice_index (cycle weight set) (index % total_weight weight set) ≡ weighted_node weight set
    index
unfolding cycle weighted_node
cycle_at weight set index = blocks_at weight (members set) (index % total_weight weight set)

-- none of the elements that come after a number is below it
filter-none_below : (node : ℕ) (nodes : List ℕ) → ComesFirst ltb node nodes
    → filter (λ m. ltb m node) nodes ≡ []
filter-none_below node [] f = refl
filter-none_below node (m ∷ ms) f =
    let above : node < m = ltb-true node m f.0 in
    let no : ltb m node ≡ false = le-ltb m node (omega arith) in
    rw no (filter-none_below node ms f.1)

filter-below_first : (node : ℕ) (nodes : List ℕ) → ComesFirst ltb node nodes
    → filter (λ m. ltb m node) (node ∷ nodes) ≡ []
filter-below_first node nodes f =
    let no : ltb node node ≡ false = le-ltb node node (omega arith) in
    rw no (filter-none_below node nodes f)

filter-below_later : (first : ℕ) (nodes : List ℕ) (node : ℕ) → ComesFirst ltb first nodes
    → IsIn nodes node → filter (λ m. ltb m node) (first ∷ nodes) ≡ first
    ∷ filter (λ m. ltb m node) nodes
filter-below_later first nodes node f i =
    let yes : ltb first node ≡ true = before_from_ComesFirst ltb IsStrictOrder-ltb first nodes node
    f i in
    rw yes refl

first_below : (weight : ℕ → ℕ) (node : ℕ) (nodes : List ℕ) → ComesFirst ltb node nodes
    → sum_by weight (filter (λ m. ltb m node) (node ∷ nodes)) ≡ 0
first_below weight node nodes f = ap (sum_by weight) (filter-below_first node nodes f)

later_below : (weight : ℕ → ℕ) (first : ℕ) (nodes : List ℕ) (node : ℕ) → ComesFirst ltb first nodes
    → IsIn nodes node → sum_by weight (filter (λ m. ltb m node) (first ∷ nodes))
    ≡ weight first + sum_by weight (filter (λ m. ltb m node) nodes)
later_below weight first nodes node f i =
    ap (sum_by weight) (filter-below_later first nodes node f i)
    ∙ sum_by-cons weight first (filter (λ m. ltb m node) nodes)

-- the place lies in the block of the node
record IsInBlock (weight : ℕ → ℕ) (nodes : List ℕ) (place node : ℕ) : Type 0 where
  member : IsIn nodes node
  from : sum_by weight (filter (λ m. ltb m node) nodes) ≤ place
  before : place < sum_by weight (filter (λ m. ltb m node) nodes) + weight node

IsInBlock-node_at : (weight : ℕ → ℕ) (nodes : List ℕ) (place : ℕ) → IsRising ltb nodes
    → place < sum_by weight nodes → IsInBlock weight nodes place (node_at weight nodes place)
IsInBlock-node_at weight [] place r h = absurd (omega arith)
IsInBlock-node_at weight (node ∷ nodes) place r h =
    elim (cases_lt place (weight node)) [
      | inl l ↦
          let here : ltb place (weight node) ≡ true = lt-ltb place (weight node) l in
          let none : sum_by weight (filter (λ m. ltb m node) (node ∷ nodes)) ≡ 0 =
          first_below weight node nodes r.0 in
          rw here
          (record {
            member = inl refl;
            from = omega (arith, none);
            before =
                omega (arith, none);
          })
      | inr l ↦
          let past : ltb place (weight node) ≡ false = le-ltb place (weight node) l in
          let all : sum_by weight (node ∷ nodes) ≡ weight node + sum_by weight nodes =
          sum_by-cons weight node nodes in
          let rest : IsInBlock weight nodes (place - weight node)
          (node_at weight nodes (place - weight node)) =
          IsInBlock-node_at weight nodes (place - weight node) r.1 (omega (arith, all)) in
          let below = later_below weight node nodes (node_at weight nodes (place - weight node)) r.0
          rest.member in
          rw past
          (record {
            member = inr rest.member;
            from = omega (arith, below, rest.from);
            before =
                omega (arith, below, rest.before);
          })
    ]

node_at_is : (weight : ℕ → ℕ) (nodes : List ℕ) (place node : ℕ) → IsRising ltb nodes
    → IsInBlock weight nodes place node → node ≡ node_at weight nodes place
node_at_is weight [] place node r b = absurd b.member
node_at_is weight (first ∷ nodes) place node r b =
    elim b.member [
      | inl same ↦
          let none : sum_by weight (filter (λ m. ltb m node) (first ∷ nodes)) ≡ 0 =
          subst (λ n. sum_by weight (filter (λ m. ltb m n) (first ∷ nodes)) ≡ 0) (sym same)
          (first_below weight first nodes r.0) in
          let here : ltb place (weight first) ≡ true =
          lt-ltb place (weight first) (omega (arith, none, b.before, ap weight same)) in
          rw here same
      | inr later ↦
          let below = later_below weight first nodes node r.0 later in
          let past : ltb place (weight first) ≡ false =
          le-ltb place (weight first) (omega (arith, below, b.from)) in
          rw past
          (node_at_is weight nodes (place - weight first) node r.1
          (record {
            member = later;
            from = omega (arith, below, b.from);
            before =
                omega (arith, below, b.from, b.before);
          }))
    ]

pub IsWeightedNode-weighted_node : (weight : ℕ → ℕ) (set index : ℕ) → 0 < total_weight weight set
    → IsWeightedNode weight set index (weighted_node weight set index)
unfolding weighted_node total_weight weight_below
IsWeightedNode-weighted_node weight set index h =
    let place : ℕ = index % sum_by weight (members set) in
    let block = IsInBlock-node_at weight (members set) (index % sum_by weight (members set))
    (IsRising-members set) (mod-lt _ h) in
    record {
      member = Contains-from_IsIn _ _ block.member;
      from_its_block = block.from;
      before_the_next = block.before;
    }

pub weighted_node_is : (weight : ℕ → ℕ) (set index node : ℕ) → IsWeightedNode weight set index node
    → node ≡ weighted_node weight set index
unfolding weighted_node total_weight weight_below
weighted_node_is weight set index node h =
    node_at_is weight (members set) (index % sum_by weight (members set)) node
    (IsRising-members set)
    (record {
      member = IsIn-from_Contains _ node h.member;
      from = h.from_its_block;
      before =
          h.before_the_next;
    })

-- as many elements of a rising list are below the one at a place as the place says
length-filter_below : (nodes : List ℕ) (k : ℕ) → IsRising ltb nodes → k < length nodes
    → length (filter (λ m. ltb m (get_or nodes k 0)) nodes) ≡ k
length-filter_below [] k r h = absurd (omega arith)
length-filter_below (node ∷ nodes) zero r h = ap length (filter-below_first node nodes r.0)
length-filter_below (node ∷ nodes) (suc k) r h =
    let within : k < length nodes = omega arith in
    let in_rest : IsIn nodes (get_or nodes k 0) = IsIn-get_or nodes k within in
    ap length (filter-below_later node nodes (get_or nodes k 0) r.0 in_rest)
    ∙ ap suc (length-filter_below nodes k r.1 within)

ordinal_of-at : (set k : ℕ) → k < weight_of set → ordinal_of set (slice_index (members set) k) ≡ k
ordinal_of-at set k h =
    sym (length-filter (λ m. ltb m (slice_index (members set) k)) (members set))
    ∙ length-filter_below (members set) k (IsRising-members set) h

pub IsInterleaveNode-interleave_node : (set index : ℕ) → 0 < weight_of set
    → IsInterleaveNode set index (interleave_node set index)
unfolding interleave_node
IsInterleaveNode-interleave_node set index h =
    let within : index % weight_of set < weight_of set = mod-lt _ h in
    record {
      member = Contains-get_or (members set) (index % weight_of set) 0 within;
      ordinal =
          ordinal_of-at set (index % weight_of set) within;
    }

pub interleave_node_is : (set index node : ℕ) → IsInterleaveNode set index node
    → node ≡ interleave_node set index
unfolding interleave_node
interleave_node_is set index node h =
    let found : Contains (members set) node = h.member in
    let at : get_or (members set) found.0 0 ≡ node = get_or_default (members set) found.0 0 node
    found.1 ∙ found.2 in
    let place : found.0 ≡ index % weight_of set = sym (ordinal_of-at set found.0 found.1)
    ∙ ap (ordinal_of set) at ∙ h.ordinal in
    sym at ∙ ap (λ k. get_or (members set) k 0) place
