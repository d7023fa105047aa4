-- The cycles in which a set's members take turns, by their places in the set.
use Rattle.std.proofs.Common.{◌≡◌, ℕ, suc, ◌+◌, ◌-◌, ◌%◌, ◌<◌, true, false, ltb, List, [], ◌∷◌}
use Rattle.std.proofs.Common.{length, length-append, sum_by, replicate, get_or, All, refl, ap, ◌∙◌}
use Rattle.std.proofs.Common.{arith, inl, inr}
use Rattle.std.specs.List.{range_with_len}
use Rattle.std.specs.Prelude.{slice_index}
use Rattle.std.proofs.Math.Nat.{mod-lt}
use Rattle.std.proofs.lemmas.Bool.{cases_lt, lt-ltb, le-ltb}
use Rattle.std.proofs.lemmas.List.{length-replicate, get_or-replicate, get_or_append_left}
use Rattle.std.proofs.lemmas.List.{get_or-append_right}
use Rattle.std.proofs.lemmas.List.Elements.{All-append, All-replicate, All-weaker, All-nil}
use Rattle.std.proofs.lemmas.List.FromFn.{length-range_with_len, get_or-range_with_len}
use Rattle.std.proofs.lemmas.List.Sums.{sum_by-cons}
use Rattle.numa_mask.specs.NodeSet.{members, weight_of}
use Rattle.numa_machine.specs.Weights.{interleave_node, node_at, total_weight, weighted_node}
use Rattle.numa_compile.specs.Rules.{places_from}

-- ---- places written out by weight

pub places-length : (first : ℕ) (weight : ℕ → ℕ) (nodes : List ℕ)
    → length (places_from first weight nodes) ≡ sum_by weight nodes
places-length first weight [] = refl
places-length first weight (node ∷ nodes) =
    omega (
      arith,
      length-append (replicate (weight node) first)
          (places_from (first + 1) weight nodes),
      length-replicate (weight node) first,
      places-length (first + 1) weight nodes,
      sum_by-cons weight node nodes,
    )

pub places-below : (first : ℕ) (weight : ℕ → ℕ) (nodes : List ℕ)
    → All (λ place. place < first + length nodes) (places_from first weight nodes)
places-below first weight [] = All-nil (λ place. place < first + 0)
places-below first weight (node ∷ nodes) =
    All-append (λ place. place < first + suc (length nodes)) (replicate (weight node) first)
    (places_from (first + 1) weight nodes)
    (All-replicate (λ place. place < first + suc (length nodes)) (weight node) first (omega arith))
    (All-weaker (λ place. place < first + 1 + length nodes)
    (λ place. place < first + suc (length nodes)) (λ place lt. omega (arith, lt))
    (places_from (first + 1) weight nodes) (places-below (first + 1) weight nodes))

-- the place at a turn is that of the node in whose block the turn is
places-at : (first : ℕ) (weight : ℕ → ℕ) (nodes : List ℕ) (turn : ℕ) → turn < sum_by weight nodes
    → (place : ℕ) × (get_or (places_from first weight nodes) turn 0 ≡ first + place)
    × (get_or nodes place 0 ≡ node_at weight nodes turn)
places-at first weight [] turn lt = absurd (omega arith)
places-at first weight (node ∷ nodes) turn lt =
    let size : length (replicate (weight node) first) ≡ weight node =
    length-replicate (weight node) first in
    elim (cases_lt turn (weight node)) [
      | inl l ↦
          let here : ltb turn (weight node) ≡ true = lt-ltb turn (weight node) l in (
            0,
            get_or_append_left (replicate (weight node) first)
                (places_from (first + 1) weight nodes) 0 turn (omega arith)
                ∙ get_or-replicate (weight node) turn first 0 l
                ∙ (let e : first ≡ first + 0 = omega arith in e),
            rw here refl,
          )
      | inr l ↦
          let past : ltb turn (weight node) ≡ false = le-ltb turn (weight node) l in
          let rest = places-at (first + 1) weight nodes (turn - weight node)
          (omega (arith, sum_by-cons weight node nodes)) in (
            suc rest.0,
            get_or-append_right (replicate (weight node) first)
                (places_from (first + 1) weight nodes) (weight node) turn 0 size l ∙ rest.1
                ∙ (let e : first + 1 + rest.0 ≡ first + suc rest.0 = omega arith in e),
            rw past rest.2,
          )
    ]

pub places-node : (weight : ℕ → ℕ) (nodes : List ℕ) (turn : ℕ) → turn < sum_by weight nodes
    → slice_index nodes (slice_index (places_from 0 weight nodes) turn) ≡ node_at weight nodes turn
places-node weight nodes turn lt =
    let found = places-at 0 weight nodes turn lt in
    let place : get_or (places_from 0 weight nodes) turn 0 ≡ found.0 = found.1
    ∙ (let e : 0 + found.0 ≡ found.0 = omega arith in e) in
    ap (λ p. get_or nodes p 0) place ∙ found.2

pub places-weighted : (weight : ℕ → ℕ) (set index : ℕ) → 0 < total_weight weight set
    → slice_index (members set)
    (slice_index (places_from 0 weight (members set))
    (index % length (places_from 0 weight (members set)))) ≡ weighted_node weight set index
unfolding total_weight weighted_node
places-weighted weight set index some =
    let long : length (places_from 0 weight (members set)) ≡ sum_by weight (members set) =
    places-length 0 weight (members set) in
    ap (λ n. get_or (members set) (get_or (places_from 0 weight (members set)) (index % n) 0) 0)
    long
    ∙ places-node weight (members set) (index % sum_by weight (members set)) (mod-lt index some)

-- ---- each place once

pub range-turns : (set index : ℕ) → 0 < weight_of set
    → slice_index (members set)
    (slice_index (range_with_len 0 (weight_of set))
    (index % length (range_with_len 0 (weight_of set)))) ≡ interleave_node set index
unfolding interleave_node
range-turns set index some =
    let long : length (range_with_len 0 (weight_of set)) ≡ weight_of set =
    length-range_with_len 0 (weight_of set) in
    let turn : get_or (range_with_len 0 (weight_of set)) (index % weight_of set) 0
    ≡ index % weight_of set = get_or-range_with_len 0 (weight_of set) (index % weight_of set) 0
    (mod-lt index some) ∙ (let e : 0 + index % weight_of set ≡ index % weight_of set =
    omega arith in e) in
    ap (λ n. get_or (members set) (get_or (range_with_len 0 (weight_of set)) (index % n) 0) 0) long
    ∙ ap (λ n. get_or (members set) n 0) turn

pub range-below : (count : ℕ) → All (λ place. place < count) (range_with_len 0 count)
range-below count k d lt =
    let short : k < count = omega (arith, length-range_with_len 0 count) in
    omega (arith, get_or-range_with_len 0 count k d short)
