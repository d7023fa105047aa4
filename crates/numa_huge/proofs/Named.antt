-- The nodes to which a page may go.
use Rattle.std.proofs.Common.{◌≡◌, ℕ, ◌≤◌, List, [], ◌∷◌, length, arith, inl, inr}
use Rattle.std.proofs.lemmas.Bool.{cases_Bool}
use Rattle.numa_mask.specs.NodeSet.{has}
use Rattle.numa_space.specs.Lists.{within}

-- they are no more than those of the list
pub within-few : (set : ℕ) (nodes : List ℕ) → length (within set nodes) ≤ length nodes
within-few set [] = omega arith
within-few set (node ∷ nodes) = elim (cases_Bool (has set node)) [
  | inl there ↦ rw there (omega (arith, within-few set nodes))
  | inr out ↦ rw out (omega (arith, within-few set nodes))
]
