-- The effective nodes of each group are some, all of them with memory.
use Rattle.std.proofs.Common.{◌≡◌, ◌≢◌, ℕ, List, [], ◌∷◌, Option, Some, None, eqb, inl, inr}
use Rattle.std.proofs.lemmas.Bool.{cases_Bool, both_ways, eq-eqb}
use Rattle.numa_mask.specs.NodeSet.{both}
use Rattle.numa_mode.proofs.Subsets.{both-within}
use Rattle.numa_space.proofs.NodeLists.{within-both, within-from_both}
use Rattle.numa_host.specs.declared.group.ControlGroup.{ControlGroup}
use Rattle.numa_host.specs.Groups.{effective_mems, narrowed}

-- of some nodes with memory some are left
pub record AreSome (memory set : ℕ) : Type 0 where
  pub some : set ≢ 0
  pub inside : both set memory ≡ set

narrowed-some : (memory above : ℕ) (mems : Option ℕ) → AreSome memory above
    → AreSome memory (narrowed mems above)
narrowed-some memory above None h = h
narrowed-some memory above (Some mems) h =
    elim (cases_Bool (eqb (both mems above) 0)) [
      | inl e ↦ rw e h
      | inr e ↦ rw e (record {
        some = λ z. both_ways (eqb (both mems above) 0) e (eq-eqb (both mems above) 0 z);
        inside = within-both (both mems above) memory
            (λ node had. within-from_both above memory h.inside node
            (both-within mems above node had));
      })
    ]

pub effective-some : (memory : ℕ) (groups : List ControlGroup) (name : ℕ)
    → AreSome memory memory
    → AreSome memory (effective_mems memory groups name)
effective-some memory [] name h = h
effective-some memory (group ∷ older) name h =
    elim (cases_Bool (eqb group.name name)) [
      | inl e ↦ rw e (narrowed-some memory (effective_mems memory older group.parent) group.mems
          (effective-some memory older group.parent h))
      | inr e ↦ rw e (effective-some memory older name h)
    ]

pub memory-some : (memory : ℕ) → memory ≢ 0 → AreSome memory memory
memory-some memory some =
    record { some = some; inside = within-both memory memory (λ node had. had) }
