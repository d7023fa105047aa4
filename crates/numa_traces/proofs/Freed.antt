-- The first node with a frame left has one.
use Rattle.std.proofs.Common.{◌≡◌, ℕ, zero, suc, get_or, refl, ◌<◌, Some, List, [], ◌∷◌, length}
use Rattle.std.proofs.Common.{slice_index, subst, arith, inl, inr}
use Rattle.std.specs.Prelude.{nat_lt}
use Rattle.std.proofs.lemmas.Bool.{cases_Bool, cases_lt, ltb-true}
use Rattle.std.proofs.lemmas.List.{get_or_past}
use Rattle.numa_traces.specs.Placing.{first_free}

some-same : (a b : ℕ) → Some a ≡ Some b → a ≡ b
some-same a b same = cc

pub free-some : (free nodes : List ℕ) (node : ℕ) → first_free free nodes ≡ Some node
    → 0 < slice_index free node
free-some free [] node found = absurd (cc)
free-some free (other ∷ nodes) node found = elim (cases_Bool (nat_lt 0 (slice_index free other))) [
  | inl t ↦ subst (λ n. 0 < slice_index free n) (some-same other node (rw t at found))
      (ltb-true 0 (slice_index free other) t)
  | inr f ↦ free-some free nodes node (rw f at found)
]

pub free-within : (free : List ℕ) (node : ℕ) → 0 < slice_index free node → node < length free
free-within free node some = elim (cases_lt node (length free)) [
  | inl low ↦ low
  | inr past ↦ let none : slice_index free node ≡ 0 = get_or_past free node 0 past in
      absurd (omega (arith, some, none))
]

-- what is read inside a list doesn't hang on the default
pub any-default : (xs : List ℕ) (k a b : ℕ) → k < length xs → get_or xs k a ≡ get_or xs k b
any-default [] k a b within = absurd (omega (arith, within))
any-default (x ∷ xs) zero a b within = refl
any-default (x ∷ xs) (suc k) a b within = any-default xs k a b (omega (arith, within))
