-- The nodes of an order that pass a test, one by one, and the nodes that a set's turns choose.
use Rattle.std.proofs.Common.{zero, suc, slice_get, slice_index, Some, ◌≡◌, ◌<◌, ◌+◌, ℕ, Bool, true}
use Rattle.std.proofs.Common.{List, [], ◌∷◌, ◌++◌, length, get_or, drop, filter, drop-cons, add-one}
use Rattle.std.proofs.Common.{length-append, refl, ap, ◌∙◌, arith}
use Rattle.std.proofs.lemmas.List.Elements.{All-contains}
use Rattle.numa_mask.specs.NodeSet.{has, members}
use Rattle.numa_mask.proofs.Sets.{members-have}
use Rattle.numa_machine.specs.Weights.{total_weight, weighted_node}
use Rattle.numa_machine.proofs.Blocks.{IsWeightedNode-weighted_node}

-- a list that the rest of an order is appended to is shorter than the whole, where the next node
-- passes
pub room-next : (p : ℕ → Bool) (items all order : List ℕ) (k : ℕ) → k < length order
    → p (get_or order k 0) ≡ true → items ++ filter p (drop k order) ≡ all
    → length items < length all
room-next p items all order k within passes whole =
    let next : drop k order ≡ get_or order k 0 ∷ drop (k + 1) order =
    rw (add-one, drop-cons order k 0) refl in
    let more : filter p (drop k order) ≡ get_or order k 0 ∷ filter p (drop (k + 1) order) =
    ap (filter p) next ∙ kept (get_or order k 0) (drop (k + 1) order) passes in
    omega (
      arith,
      ap (length {A = ℕ}) whole,
      ap (length {A = ℕ}) more,
      length-append items (filter p (drop k order)),
    )
  where
    kept : (x : ℕ) (xs : List ℕ) → p x ≡ true → filter p (x ∷ xs) ≡ x ∷ filter p xs
    kept x xs t = rw t refl

pub weighted-has : (weight : ℕ → ℕ) (set index : ℕ) → 0 < total_weight weight set
    → has set (weighted_node weight set index) ≡ true
weighted-has weight set index some = All-contains (λ node. has set node ≡ true) (members set)
    (weighted_node weight set index) (members-have set)
    (IsWeightedNode-weighted_node weight set index some).member

pub index-got : (xs : List ℕ) (k x : ℕ) → slice_get xs k ≡ Some x → slice_index xs k ≡ x
index-got [] k x got = cc
index-got (y ∷ ys) zero x got = cc
index-got (y ∷ ys) (suc k) x got = index-got ys k x got
