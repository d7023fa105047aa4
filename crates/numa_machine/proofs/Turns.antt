-- The weights that are stored, and the turns that they give.
use Rattle.std.proofs.Common.{◌≡◌, ℕ, zero, suc, ◌≤◌, List, [], ◌∷◌, length, replicate, sum_by}
use Rattle.std.proofs.Common.{get_or, All, refl, arith, inl, inr}
use Rattle.std.proofs.lemmas.Bool.{cases_lt}
use Rattle.std.proofs.lemmas.List.{get_or_past}
use Rattle.std.proofs.lemmas.List.Elements.{All-get_or}
use Rattle.std.proofs.lemmas.List.Sums.{sum_by-cons}
use Rattle.numa_mask.specs.NodeSet.{members, weight_of}
use Rattle.numa_machine.specs.Weights.{NodeWeights, weight_at, total_weight}

-- a list of one number, read with that number as its default
pub get_or-replicate_same : (n a i : ℕ) → get_or (replicate n a) i a ≡ a
get_or-replicate_same zero a i = refl
get_or-replicate_same (suc n) a zero = refl
get_or-replicate_same (suc n) a (suc i) = get_or-replicate_same n a i

-- no weight is 0
pub weight_at-positive : (weights : NodeWeights) → All (λ weight. (1 ≤ weight) × (weight ≤ 255))
    weights.weights → (node : ℕ) → 1 ≤ weight_at weights node
weight_at-positive weights all node =
    elim (cases_lt node (length weights.weights)) [
      | inl l ↦
          (All-get_or (λ weight. (1 ≤ weight) × (weight ≤ 255)) weights.weights node 1 l all).0
      | inr l ↦ let one : weight_at weights node ≡ 1 = get_or_past weights.weights node 1 l in
          omega (arith, one)
    ]

length-le-sum_by : (weight : ℕ → ℕ) → ((node : ℕ) → 1 ≤ weight node) → (nodes : List ℕ)
    → length nodes ≤ sum_by weight nodes
length-le-sum_by weight some [] = omega arith
length-le-sum_by weight some (node ∷ nodes) =
    omega (arith, sum_by-cons weight node nodes, length-le-sum_by weight some nodes, some node)

-- each member has a turn
pub weight_of-le-total_weight : (weight : ℕ → ℕ) → ((node : ℕ) → 1 ≤ weight node) → (set : ℕ)
    → weight_of set ≤ total_weight weight set
unfolding total_weight
weight_of-le-total_weight weight some set = length-le-sum_by weight some (members set)
