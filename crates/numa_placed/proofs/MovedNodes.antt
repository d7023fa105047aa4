-- Where the pages of a node go, in words.
use Rattle.std.proofs.Common.{◌≡◌, ◌≢◌, ℕ, ◌<◌, ◌%◌, ◌^◌, ◌&&◌, true, false, not, eqb, refl}
use Rattle.std.proofs.Common.{inl, inr, slice_index, zero, suc, List, ◌∷◌, length, get_or, Contains}
use Rattle.std.proofs.Common.{sym, subst, arith}
use Rattle.std.proofs.Math.Nat.{mod-eq_of_lt, mod-lt}
use Rattle.std.proofs.lemmas.Bool.{cases_Bool, cases_eq, and_parts, ne_eqb, eq-eqb}
use Rattle.numa_mask.specs.NodeSet.{has, members, weight_of, node_after, ordinal_of}
use Rattle.numa_mask.proofs.Images.{weight-some}
use Rattle.numa_mask.proofs.Sets.{contains-has}
use Rattle.numa_mask.proofs.Ordinals.{nth-has, nth-some, nth-within, ordinal-nth}
use Rattle.numa_space.proofs.Chosen.{index-got}
use Rattle.numa_placed.specs.Moves.{moved_node}

pub stays : (old new node : ℕ) → weight_of old ≢ weight_of new → has new node ≡ true
    → moved_node old new node ≡ node
stays old new node other here =
    rw (ne_eqb (weight_of old) (weight_of new) other, here) refl

after-outside : (old new node : ℕ) → has old node ≡ false → node_after old new node ≡ node
after-outside old new node out = rw out refl

pub outside : (old new node : ℕ) → has old node ≡ false → moved_node old new node ≡ node
outside old new node out =
    elim (cases_Bool (not (eqb (weight_of old) (weight_of new)) && has new node)) [
      | inl t ↦ rw t refl
      | inr e ↦ rw e (after-outside old new node out)
    ]

-- a node that isn't among the members is none of them
pub absent : (set node : ℕ) → node < 256 → (Contains (members set) node → ⊥)
    → has set node ≡ false
absent set node small out = elim (cases_Bool (has set node)) [
  | inl here ↦ absurd (out (contains-has set node small here))
  | inr lacks ↦ lacks
]

not-at : (first node : ℕ) (rest : List ℕ) → (Contains rest node → ⊥) → (node ≡ first → ⊥)
    → (k : ℕ) → k < length (first ∷ rest) → get_or (first ∷ rest) k node ≡ node → ⊥
not-at first node rest out other zero within is = other (sym is)
not-at first node rest out other (suc k) within is = out (k, omega (arith, within), is)

-- a node that is neither the first of a list nor behind it
pub not-in : (first node : ℕ) (rest whole : List ℕ) → whole ≡ first ∷ rest
    → (Contains rest node → ⊥) → (node ≡ first → ⊥) → Contains whole node → ⊥
not-in first node rest whole is out other there =
    let here : Contains (first ∷ rest) node = subst (λ (l : List ℕ). Contains l node) is there in
    not-at first node rest out other here.0 here.1 here.2

after-into : (old new node : ℕ) → has old node ≡ true → new ≢ 0 → new < 2 ^ 256
    → has new (node_after old new node) ≡ true
after-into old new node here some small =
    let size = weight-some new small some in
    let place = ordinal_of old node % weight_of new in
    let within : place < weight_of new = mod-lt (ordinal_of old node) size in
    rw (here, ne_eqb new 0 some)
    (nth-has new place (slice_index (members new) place) (nth-some new place within))

pub into : (old new node : ℕ) → has old node ≡ true → new ≢ 0 → new < 2 ^ 256
    → has new (moved_node old new node) ≡ true
into old new node here some small =
    elim (cases_Bool (not (eqb (weight_of old) (weight_of new)) && has new node)) [
      | inl t ↦
          let parts = and_parts (not (eqb (weight_of old) (weight_of new))) (has new node) t in
          rw t parts.1
      | inr e ↦ rw e (after-into old new node here some small)
    ]

after-same : (set node : ℕ) → node < 256 → node_after set set node ≡ node
after-same set node small =
    elim (cases_Bool (has set node)) [
      | inr out ↦ after-outside set set node out
      | inl here ↦ elim (cases_eq set 0) [
        | inl none ↦ rw (eq-eqb set 0 none, here) refl
        | inr some ↦
            let nth = ordinal-nth set node small here in
            let within = nth-within set (ordinal_of set node) node nth in
            let place : ordinal_of set node % weight_of set ≡ ordinal_of set node =
            mod-eq_of_lt within.0 in
            rw (here, ne_eqb set 0 some, place) (index-got (members set) (ordinal_of set node) node
            nth)
      ]
    ]

pub same : (set node : ℕ) → node < 256 → moved_node set set node ≡ node
same set node small =
    rw (eq-eqb (weight_of set) (weight_of set) refl) (after-same set node small)
