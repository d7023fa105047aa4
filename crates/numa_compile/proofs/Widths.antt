-- How many nodes the lists of a policy have: as many for each faulting node and index.
use Rattle.std.proofs.Common.{◌≡◌, ℕ, ◌+◌, Bool, true, false, not, ◌&&◌, cond, List, [], ◌∷◌, ◌++◌}
use Rattle.std.proofs.Common.{length, length-append, filter, fold, refl, ap, ◌∙◌, arith, inl, inr}
use Rattle.std.proofs.lemmas.Bool.{cases_Bool}
use Rattle.std.specs.List.{range_with_len}
use Rattle.numa_mask.specs.NodeSet.{has, both, members, weight_of}
use Rattle.numa_mask.proofs.Members.{filter_agree_from}
use Rattle.numa_mask.proofs.Counts.{filter_twice}
use Rattle.numa_machine.specs.Machine.{Hardware, precedes, insert_by, fallback_order}
use Rattle.numa_mode.specs.Within.{IsWithin}
use Rattle.numa_space.specs.Lists.{Setting, within, near}
use Rattle.numa_space.proofs.NodeLists.{within-from_both}

-- ---- filters

filter-cons : (p : ℕ → Bool) (x : ℕ) (xs : List ℕ) → length (filter p (x ∷ xs))
    ≡ cond (p x) 1 0 + length (filter p xs)
filter-cons p x xs =
    elim (cases_Bool (p x)) [ inl t ↦ rw t (omega arith) | inr f ↦ rw f (omega arith) ]

filter-insert : (p : ℕ → Bool) (before : ℕ → ℕ → Bool) (ys : List ℕ) (x : ℕ)
    → length (filter p (insert_by before ys x)) ≡ cond (p x) 1 0 + length (filter p ys)
filter-insert p before [] x = filter-cons p x []
filter-insert p before (y ∷ ys) x =
    elim (cases_Bool (before x y)) [
      | inl e ↦ rw e (filter-cons p x (y ∷ ys))
      | inr e ↦
          rw e
          (omega (
            arith,
            filter-cons p y (insert_by before ys x),
            filter-insert p before ys x,
            filter-cons p y ys,
          ))
    ]

filter-inserted : (p : ℕ → Bool) (before : ℕ → ℕ → Bool) (acc xs : List ℕ)
    → length (filter p (fold (insert_by before) acc xs)) ≡ length (filter p acc) + length
    (filter p xs)
filter-inserted p before acc [] = omega arith
filter-inserted p before acc (x ∷ xs) =
    omega (
      arith,
      filter-inserted p before (insert_by before acc x) xs,
      filter-insert p before acc x,
      filter-cons p x xs,
    )

-- those that pass one test, and the others that pass a wider one
filter-split : (p q : ℕ → Bool) → ((x : ℕ) → p x ≡ true → q x ≡ true) → (xs : List ℕ)
    → length (filter p xs) + length (filter (λ x. q x && not (p x)) xs) ≡ length (filter q xs)
filter-split p q wider [] = refl
filter-split p q wider (x ∷ xs) =
    elim (cases_Bool (p x)) [
      | inl t ↦ let u : q x ≡ true = wider x t in
          rw (t, u) (omega (arith, filter-split p q wider xs))
      | inr f ↦
          elim (cases_Bool (q x)) [
            | inl u ↦ rw (f, u) (omega (arith, filter-split p q wider xs))
            | inr u ↦ rw (f, u) (filter-split p q wider xs)
          ]
    ]

-- the members of a set that another has, where it has them all
filter-members : (set other : ℕ) → IsWithin set other → filter (has set) (members other)
    ≡ members set
unfolding members
filter-members set other inside =
    filter_twice (has set) (has other) (range_with_len 0 256)
    ∙ filter_agree_from (λ node. has other node && has set node) (has set) 0 256
    (λ node low. kept (has set node) (has other node) (inside node))
  where
    kept : (a b : Bool) → (a ≡ true → b ≡ true) → a ≡ (b && a)
    kept true b h = rw (h refl) refl
    kept false true h = refl
    kept false false h = refl

-- ---- lists

-- the nodes of a set with memory, in the order in which a node falls back to them
pub width-within : (machine : Hardware) (set from : ℕ) → IsWithin set machine.memory
    → length (within set (fallback_order machine from)) ≡ weight_of set
unfolding fallback_order
width-within machine set from inside =
    let kept : length (filter (has set) (members machine.memory)) ≡ weight_of set =
    ap length (filter-members set machine.memory inside) in
    omega (
      arith,
      filter-inserted (has set) (precedes machine from) [] (members machine.memory),
      kept,
    )

-- the allowed nodes
pub width-near : (setting : Setting) (from : ℕ) → both setting.allowed setting.machine.memory
    ≡ setting.allowed → length (near setting from) ≡ weight_of setting.allowed
width-near setting from memory = width-within setting.machine setting.allowed from
    (within-from_both setting.allowed setting.machine.memory memory)

-- the nodes of a set of allowed nodes
pub width-bind : (setting : Setting) (set from : ℕ) → both setting.allowed setting.machine.memory
    ≡ setting.allowed → both set setting.allowed ≡ set
    → length (within set (fallback_order setting.machine from)) ≡ weight_of set
width-bind setting set from memory inside =
    width-within setting.machine set from
    (λ node member. within-from_both setting.allowed setting.machine.memory memory node
    (within-from_both set setting.allowed inside node member))

-- and behind them the other allowed nodes
pub width-many : (setting : Setting) (set from : ℕ) → both setting.allowed setting.machine.memory
    ≡ setting.allowed → both set setting.allowed ≡ set
    → length (within set (fallback_order setting.machine from)
    ++ filter (λ node. has setting.allowed node && not (has set node))
    (fallback_order setting.machine from)) ≡ weight_of setting.allowed
width-many setting set from memory inside =
    let order : List ℕ = fallback_order setting.machine from in
    length-append (within set order)
    (filter (λ node. has setting.allowed node && not (has set node)) order)
    ∙ filter-split (has set) (has setting.allowed) (within-from_both set setting.allowed inside)
    order
    ∙ width-near setting from memory
