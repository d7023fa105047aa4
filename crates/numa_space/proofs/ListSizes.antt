-- How long the list of a page is, and which numbers stand in it.
use Rattle.std.proofs.Common.{ℕ, ◌+◌, ◌<◌, ◌≤◌, Bool, not, ◌&&◌, List, [], ◌∷◌, length}
use Rattle.std.proofs.Common.{length-append, filter, All, Option, Some, None, arith, inl, inr}
use Rattle.std.proofs.lemmas.Bool.{cases_Bool}
use Rattle.std.proofs.lemmas.List.Elements.{All-append, All-filter, All-contains, Contains-get_or}
use Rattle.std.proofs.lemmas.List.FromFn.{length-range_with_len}
use Rattle.std.specs.List.{range_with_len}
use Rattle.std.specs.Prelude.{unwrap_or, slice_index}
use Rattle.numa_mask.specs.NodeSet.{has, both, members, weight_of}
use Rattle.numa_mask.proofs.Sets.{members-below}
use Rattle.numa_machine.specs.Machine.{Hardware, fallback_order, IsFallbackOrder}
use Rattle.numa_machine.specs.Sizes.{turn_at}
use Rattle.numa_machine.specs.Weights.{interleave_node, weighted_node}
use Rattle.numa_machine.proofs.Nearest.{IsFallbackOrder-fallback_order}
use Rattle.numa_machine.proofs.Stored.{length-fallback_order}
use Rattle.numa_mode.specs.Policy.{PolicyRecord}
use Rattle.numa_mode.specs.declared.modes.Mode.{Mode}
use Rattle.numa_mode.specs.declared.modes.Mode.TheVariants.{Default, Preferred, Bind, Interleave}
use Rattle.numa_mode.specs.declared.modes.Mode.TheVariants.{Local, PreferredMany}
use Rattle.numa_mode.specs.declared.modes.Mode.TheVariants.{WeightedInterleave}
use Rattle.numa_space.specs.Lists.{Setting, within, list_by_mode, list_for, usable}

-- ---- filters

pub filter-short : (p : ℕ → Bool) (xs : List ℕ) → length (filter p xs) ≤ length xs
filter-short p [] = omega arith
filter-short p (x ∷ xs) = elim (cases_Bool (p x)) [
  | inl t ↦ rw t (omega (arith, filter-short p xs))
  | inr f ↦ rw f (omega (arith, filter-short p xs))
]

-- those that pass one test, and those that fail it and pass another
pub split-short : (p q : ℕ → Bool) (xs : List ℕ)
    → length (filter p xs) + length (filter (λ x. q x && not (p x)) xs) ≤ length xs
split-short p q [] = omega arith
split-short p q (x ∷ xs) =
    elim (cases_Bool (p x)) [
      | inl t ↦ elim (cases_Bool (q x)) [
        | inl u ↦ rw (t, u) (omega (arith, split-short p q xs))
        | inr u ↦ rw (t, u) (omega (arith, split-short p q xs))
      ]
      | inr f ↦ elim (cases_Bool (q x)) [
        | inl u ↦ rw (f, u) (omega (arith, split-short p q xs))
        | inr u ↦ rw (f, u) (omega (arith, split-short p q xs))
      ]
    ]

-- ---- lists

pub weight-few : (set : ℕ) → weight_of set ≤ 256
unfolding members
weight-few set =
    omega (arith, filter-short (has set) (range_with_len 0 256), length-range_with_len 0 256)

pub order-short : (machine : Hardware) (from : ℕ) → length (fallback_order machine from) ≤ 256
order-short machine from =
    omega (arith, length-fallback_order machine from, weight-few machine.memory)

pub order-below : (machine : Hardware) (from : ℕ)
    → All (λ node. node < 256) (fallback_order machine from)
order-below machine from k d l =
    let order : IsFallbackOrder machine from (fallback_order machine from) =
    IsFallbackOrder-fallback_order machine from in
    All-contains (λ node. node < 256) (members machine.memory) _ (members-below machine.memory)
    ((order.nodes_with_memory _).0 (Contains-get_or (fallback_order machine from) k d l))

mode-short : (setting : Setting) (mode : Mode) (set from index : ℕ)
    → length (list_by_mode setting mode set from index) ≤ 256
mode-short setting Default set from index =
    omega (
      arith,
      filter-short (has setting.allowed) (fallback_order setting.machine from),
      order-short setting.machine from,
    )
mode-short setting Preferred set from index =
    omega (
      arith,
      filter-short (has setting.allowed)
          (fallback_order setting.machine (slice_index (members set) 0)),
      order-short setting.machine (slice_index (members set) 0),
    )
mode-short setting Bind set from index =
    omega (
      arith,
      filter-short (has (usable setting.allowed set)) (fallback_order setting.machine from),
      order-short setting.machine from,
    )
mode-short setting Interleave set from index =
    omega (
      arith,
      filter-short (has setting.allowed)
          (fallback_order setting.machine (interleave_node set index)),
      order-short setting.machine (interleave_node set index),
    )
mode-short setting Local set from index =
    omega (
      arith,
      filter-short (has setting.allowed) (fallback_order setting.machine from),
      order-short setting.machine from,
    )
mode-short setting PreferredMany set from index =
    let order : List ℕ = fallback_order setting.machine from in
    omega (
      arith,
      length-append (within (both set setting.allowed) order)
          (filter (λ node. has setting.allowed node && not (has (both set setting.allowed) node))
          order),
      split-short (has (both set setting.allowed)) (has setting.allowed) order,
      order-short setting.machine from,
    )
mode-short setting WeightedInterleave set from index =
    omega (
      arith,
      filter-short (has setting.allowed)
          (fallback_order setting.machine (weighted_node setting.weight set index)),
      order-short setting.machine (weighted_node setting.weight set index),
    )

-- a list has at most 256 nodes
pub list-short : (setting : Setting) (policy : Option PolicyRecord) (cpu index : ℕ)
    → length (list_for setting policy cpu index) ≤ 256
list-short setting None cpu index =
    omega (
      arith,
      filter-short (has setting.allowed) (fallback_order setting.machine cpu),
      order-short setting.machine cpu,
    )
list-short setting (Some r) cpu index = mode-short setting r.spec.mode r.effective
    (unwrap_or r.home cpu) (turn_at index)

filtered-below : (p : ℕ → Bool) (machine : Hardware) (from : ℕ)
    → All (λ node. node < 256) (filter p (fallback_order machine from))
filtered-below p machine from = All-filter p (λ node. node < 256) (fallback_order machine from)
    (order-below machine from)

mode-below : (setting : Setting) (mode : Mode) (set from index : ℕ)
    → All (λ node. node < 256) (list_by_mode setting mode set from index)
mode-below setting Default set from index = filtered-below (has setting.allowed) setting.machine
    from
mode-below setting Preferred set from index = filtered-below (has setting.allowed) setting.machine
    (slice_index (members set) 0)
mode-below setting Bind set from index =
    filtered-below (has (usable setting.allowed set)) setting.machine from
mode-below setting Interleave set from index = filtered-below (has setting.allowed) setting.machine
    (interleave_node set index)
mode-below setting Local set from index = filtered-below (has setting.allowed) setting.machine from
mode-below setting PreferredMany set from index =
    All-append (λ node. node < 256)
    (within (both set setting.allowed) (fallback_order setting.machine from))
    (filter (λ node. has setting.allowed node && not (has (both set setting.allowed) node))
    (fallback_order setting.machine from))
    (filtered-below (has (both set setting.allowed)) setting.machine from)
    (filtered-below (λ node. has setting.allowed node
    && not (has (both set setting.allowed) node)) setting.machine from)
mode-below setting WeightedInterleave set from index =
    filtered-below (has setting.allowed) setting.machine (weighted_node setting.weight set index)

-- and each is a node
pub list-below : (setting : Setting) (policy : Option PolicyRecord) (cpu index : ℕ)
    → All (λ node. node < 256) (list_for setting policy cpu index)
list-below setting None cpu index = filtered-below (has setting.allowed) setting.machine cpu
list-below setting (Some r) cpu index = mode-below setting r.spec.mode r.effective
    (unwrap_or r.home cpu) (turn_at index)
