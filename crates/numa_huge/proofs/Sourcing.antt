-- Node by node, the pages of the nodes that are still to go leave.
use Rattle.std.proofs.Common.{◌≡◌, ◌≢◌, ℕ, zero, suc, ◌+◌, ◌<◌, ◌≤◌, ◌∙◌, ◌&&◌, Bool, true, false}
use Rattle.std.proofs.Common.{not, Option, Some, None, refl, sym, ap, arith, inl, inr, set}
use Rattle.std.proofs.Common.{length, List}
use Rattle.std.specs.Prelude.{◌==◌, if◌then◌else◌, slice_index}
use Rattle.std.proofs.lemmas.Bool.{both_ways, cases_Bool, cases_eq, eq-eqb, ne_eqb}
use Rattle.std.proofs.lemmas.List.{get_or-set_other, get_or-set_same}
use Rattle.numa_placed.specs.Shifts.{is_clear, later_of, may_go, source_from}
use Rattle.numa_placed.specs.Standing.{AreWaiting}
use Rattle.numa_placed.proofs.Sources.{source-clear, source-next, source-none}
use Rattle.numa_pools.specs.Moves.{moving}
use Rattle.numa_pools.specs.Pools.{PoolCounts}
use Rattle.numa_huge.specs.Moves.{leaving}

-- ---- the next node may go

module _ (go : ℕ → ℕ) (still : ℕ → Bool) where
  clear-may : (node : ℕ) → is_clear go still node ≡ true → may_go go still node ≡ true
  clear-may node t = elim (cases_Bool (may_go go still node)) [
    | inl may ↦ may
    | inr e ↦ absurd (both_ways (is_clear go still node)
        (ap (λ (b : Bool). b && not (still (go node))) e) t)
  ]

  later-may : (node source : ℕ) (last : Option ℕ) (b : Bool) → may_go go still node ≡ b
      → ((k : ℕ) → last ≡ Some k → may_go go still k ≡ true)
      → later_of b node last ≡ Some source → may_go go still source ≡ true
  later-may node source last true may before is = cc
  later-may node source last false may before is = before source is

  pub source-may : (n node source : ℕ) (last : Option ℕ)
      → ((k : ℕ) → last ≡ Some k → may_go go still k ≡ true)
      → source_from go still last node n ≡ Some source → may_go go still source ≡ true
  source-may zero node source last before is =
      before source (sym (source-none go still last node) ∙ is)
  source-may (suc n) node source last before is =
      elim (cases_Bool (is_clear go still node)) [
        | inl t ↦
            let same : Some node ≡ Some source =
            sym (source-clear go still last node n (suc n) refl t) ∙ is in
            let may : may_go go still node ≡ true = clear-may node t in
            cc
        | inr e ↦ source-may n (node + 1) source (later_of (may_go go still node) node last)
            (λ k eq. later-may node k last (may_go go still node) refl before eq)
            (sym (source-next go still last node n (suc n) refl e) ∙ is)
      ]

  -- if there is none, no node may go
  later-none : (b : Bool) (node : ℕ) (last : Option ℕ) → later_of b node last ≡ None
      → (b ≡ false) × (last ≡ None)
  later-none true node last is = absurd (cc)
  later-none false node last is = (refl, is)

  next-none : (n node : ℕ) (last : Option ℕ) → source_from go still last node (suc n) ≡ None
      → source_from go still (later_of (may_go go still node) node last) (node + 1) n ≡ None
  next-none n node last is = elim (cases_Bool (is_clear go still node)) [
    | inl t ↦
        let some : Some node ≡ None = sym (source-clear go still last node n (suc n) refl t) ∙ is in
        absurd (cc)
    | inr e ↦ sym (source-next go still last node n (suc n) refl e) ∙ is
  ]

  last-none : (n node : ℕ) (last : Option ℕ) → source_from go still last node n ≡ None
      → last ≡ None
  last-none zero node last is = sym (source-none go still last node) ∙ is
  last-none (suc n) node last is =
      (later-none (may_go go still node) node last
      (last-none n (node + 1) (later_of (may_go go still node) node last)
      (next-none n node last is))).1

  pub none-may : (n node : ℕ) (last : Option ℕ) → source_from go still last node n ≡ None
      → (k : ℕ) → node ≤ k → k < node + n → may_go go still k ≡ false
  none-may zero node last is k low high = absurd (omega (arith, low, high))
  none-may (suc n) node last is k low high =
      let more : Option ℕ = later_of (may_go go still node) node last in
      let rest : source_from go still more (node + 1) n ≡ None = next-none n node last is in
      elim (cases_eq k node) [
        | inl e ↦ ap (may_go go still) e
            ∙ (later-none (may_go go still node) node last (last-none n (node + 1) more rest)).0
        | inr ne ↦ none-may n (node + 1) more rest k (omega (arith, low, ne))
            (omega (arith, high))
      ]

  -- of a node that may go
  pub may-waits : (source : ℕ) → may_go go still source ≡ true → still source ≡ true
  may-waits source may = elim (cases_Bool (still source)) [
    | inl t ↦ t
    | inr e ↦ absurd (both_ways (may_go go still source)
        (ap (λ (b : Bool). b && not (go source == source)) e) may)
  ]

  pub may-other : (source : ℕ) → may_go go still source ≡ true → source ≢ go source
  may-other source may same =
      let it : (go source == source) ≡ true = eq-eqb (go source) source (sym same) in
      both_ways (may_go go still source) (rw it (none (still source))) may
    where
      none : (b : Bool) → (b && not true) ≡ false
      none true = refl
      none false = refl

-- no node goes before the first
pub first-may : (go : ℕ → ℕ) (still : ℕ → Bool) (source : ℕ)
    → source_from go still None 0 256 ≡ Some source → may_go go still source ≡ true
first-may go still source is = source-may go still 256 0 source None (λ k e. cc) is

-- ---- it goes

module _ (go count : ℕ → ℕ) where
  pub leaving-end : (still : ℕ → Bool) (pools : PoolCounts) → leaving 0 go count still pools ≡ pools
  unfolding leaving
  leaving-end still pools = refl

  pub leaving-none : (n : ℕ) (still : ℕ → Bool) (pools : PoolCounts)
      → source_from go still None 0 256 ≡ None → leaving n go count still pools ≡ pools
  unfolding leaving
  leaving-none zero still pools none = refl
  leaving-none (suc n) still pools none = rw none refl

  pub leaving-next : (m n source : ℕ) (still : ℕ → Bool) (pools : PoolCounts) → n ≡ suc m
      → source_from go still None 0 256 ≡ Some source → leaving n go count still pools
      ≡ leaving m go count (λ node. still node && not (node == source))
      (moving pools source (go source) (count source))
  unfolding leaving
  leaving-next m n source still pools is some = rw (is, some) refl

-- a list has 1 for each node that is still to go, once one went
pub waits-less : (still : ℕ → Bool) (waits : List ℕ) (source : ℕ) → source < length waits
    → AreWaiting waits still
    → AreWaiting (set waits source 0) (λ node. still node && not (node == source))
waits-less still waits source there are node small = elim (cases_eq node source) [
  | inl e ↦
      let it : (node == source) ≡ true = eq-eqb node source e in
      rw it (ap (λ (k : ℕ). slice_index (set waits source 0) k) e
      ∙ get_or-set_same waits source 0 0 there ∙ none (still node))
  | inr ne ↦
      let it : (node == source) ≡ false = ne_eqb node source ne in
      rw it (get_or-set_other waits source node 0 0 ne ∙ are node small ∙ more (still node))
]
  where
    none : (b : Bool) → ◌≡◌ {A = ℕ} 0 (if b && not true then 1 else 0)
    none true = refl
    none false = refl

    more : (b : Bool)
        → ◌≡◌ {A = ℕ} (if b then 1 else 0) (if b && not false then 1 else 0)
    more true = refl
    more false = refl
