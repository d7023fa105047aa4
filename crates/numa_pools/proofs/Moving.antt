-- Pages of a node that become free: many at once are freed one by one.
use Rattle.std.proofs.Common.{◌≡◌, ℕ, zero, suc, ◌+◌, ◌-◌, ◌<◌, ◌≤◌, true, false, List, length}
use Rattle.std.proofs.Common.{min, refl, sym, ap, ◌∙◌, arith, inl, inr, set, subst}
use Rattle.std.specs.Prelude.{nat_lt, slice_index, sum}
use Rattle.std.proofs.lemmas.Bool.{cases_eq, cases_lt, le-ltb, lt-ltb}
use Rattle.std.proofs.lemmas.List.{get_or-set_other, get_or-set_same, length-set, set-get_or}
use Rattle.std.proofs.lemmas.List.{set-set}
use Rattle.numa_pools.specs.Turns.{one_less_at}
use Rattle.numa_pools.specs.Pools.{PoolCounts, free_at, freeing, freeing_one, most}
use Rattle.numa_pools.specs.Pools.{one_more_at, surplus_at, total_at}
use Rattle.numa_pools.specs.Kept.{AreKept}
use Rattle.numa_pools.proofs.Each.{at-le-sum}
use Rattle.numa_pools.proofs.Keeping.{sum-set}
use Rattle.numa_pools.proofs.Turning.{less-same}

-- ---- many pages at once

-- the pools with other numbers of a node
abbrev pub with_node_at : PoolCounts → ℕ → ℕ → ℕ → ℕ → PoolCounts
with_node_at pools node total free surplus = record pools {
  total = set pools.total node total;
  free = set pools.free node free;
  surplus = set pools.surplus node surplus;
}

-- so many pages of a node became free at once
abbrev pub freed : PoolCounts → ℕ → ℕ → PoolCounts
freed pools node pages = let ending = min pages (surplus_at pools node) in
    with_node_at pools node (total_at pools node - ending)
    (free_at pools node + (pages - ending)) (surplus_at pools node - ending)

same-node : (pools : PoolCounts) (node total free surplus : ℕ) → total ≡ total_at pools node
    → free ≡ free_at pools node → surplus ≡ surplus_at pools node
    → with_node_at pools node total free surplus ≡ pools
same-node pools node total free surplus t f s =
    let a : set pools.total node total ≡ pools.total =
    ap (set pools.total node) t ∙ set-get_or pools.total node 0 in
    let b : set pools.free node free ≡ pools.free =
    ap (set pools.free node) f ∙ set-get_or pools.free node 0 in
    let d : set pools.surplus node surplus ≡ pools.surplus =
    ap (set pools.surplus node) s ∙ set-get_or pools.surplus node 0 in
    rw (a, b, d) refl

pub freeing-is : (pages : ℕ) (pools : PoolCounts) (node : ℕ) → node < length pools.free
    → freeing pools node pages ≡ freed pools node pages
unfolding freeing_one
freeing-is zero pools node within =
    sym (same-node pools node (total_at pools node - min 0 (surplus_at pools node))
    (free_at pools node + (0 - min 0 (surplus_at pools node)))
    (surplus_at pools node - min 0 (surplus_at pools node)) (omega arith) (omega arith) (omega
    arith))
freeing-is (suc pages) pools node within = elim (cases_lt 0 (surplus_at pools node)) [
  | inl l ↦
      let is_in : nat_lt 0 (surplus_at pools node) ≡ true = lt-ltb 0 (surplus_at pools node) l in
      let next : PoolCounts = record pools {
        total = one_less_at pools.total node;
        surplus = one_less_at pools.surplus node;
      } in
      let rest : freeing next node pages ≡ freed next node pages =
      freeing-is pages next node within in
      let t : total_at next node ≡ total_at pools node - 1 = less-same pools.total node in
      let s : surplus_at next node ≡ surplus_at pools node - 1 = less-same pools.surplus node in
      let e : min (suc pages) (surplus_at pools node) ≡ suc (min pages (surplus_at next node)) =
      omega (arith, s, l) in
      let ta : total_at next node - min pages (surplus_at next node)
      ≡ total_at pools node - min (suc pages) (surplus_at pools node) = omega (arith, t, e) in
      let fa : free_at pools node + (pages - min pages (surplus_at next node))
      ≡ free_at pools node + (suc pages - min (suc pages) (surplus_at pools node)) =
      omega (arith, e) in
      let sa : surplus_at next node - min pages (surplus_at next node)
      ≡ surplus_at pools node - min (suc pages) (surplus_at pools node) = omega (arith, s, e) in
      let a : set (one_less_at pools.total node) node
      (total_at next node - min pages (surplus_at next node))
      ≡ set pools.total node (total_at pools node - min (suc pages) (surplus_at pools node)) =
      set-set pools.total node (total_at pools node - 1)
      (total_at next node - min pages (surplus_at next node)) ∙ ap (set pools.total node) ta in
      let b : set pools.free node (free_at pools node + (pages - min pages (surplus_at next node)))
      ≡ set pools.free node
      (free_at pools node + (suc pages - min (suc pages) (surplus_at pools node))) =
      ap (set pools.free node) fa in
      let d : set (one_less_at pools.surplus node) node
      (surplus_at next node - min pages (surplus_at next node))
      ≡ set pools.surplus node (surplus_at pools node - min (suc pages) (surplus_at pools node)) =
      set-set pools.surplus node (surplus_at pools node - 1)
      (surplus_at next node - min pages (surplus_at next node)) ∙ ap (set pools.surplus node) sa in
      let f : List ℕ → List ℕ → List ℕ → PoolCounts =
      λ x y z. record pools { total = x; free = y; surplus = z } in
      rw is_in (rest ∙ ap (λ (x : List ℕ). f x
      (set pools.free node (free_at pools node + (pages - min pages (surplus_at next node))))
      (set (one_less_at pools.surplus node) node
      (surplus_at next node - min pages (surplus_at next node)))) a
      ∙ ap (λ (y : List ℕ). f
      (set pools.total node (total_at pools node - min (suc pages) (surplus_at pools node))) y
      (set (one_less_at pools.surplus node) node
      (surplus_at next node - min pages (surplus_at next node)))) b
      ∙ ap (f
      (set pools.total node (total_at pools node - min (suc pages) (surplus_at pools node)))
      (set pools.free node
      (free_at pools node + (suc pages - min (suc pages) (surplus_at pools node))))) d)
  | inr l ↦
      let is_out : nat_lt 0 (surplus_at pools node) ≡ false = le-ltb 0 (surplus_at pools node) l in
      let next : PoolCounts = record pools { free = one_more_at pools.free node } in
      let there : node < length (one_more_at pools.free node) =
      omega (arith, within, length-set pools.free node (free_at pools node + 1)) in
      let rest : freeing next node pages ≡ freed next node pages =
      freeing-is pages next node there in
      let n : free_at next node ≡ free_at pools node + 1 =
      get_or-set_same pools.free node (free_at pools node + 1) 0 within in
      let fa : free_at next node + (pages - min pages (surplus_at pools node))
      ≡ free_at pools node + (suc pages - min (suc pages) (surplus_at pools node)) =
      omega (arith, n, l) in
      let b : set (one_more_at pools.free node) node
      (free_at next node + (pages - min pages (surplus_at pools node)))
      ≡ set pools.free node
      (free_at pools node + (suc pages - min (suc pages) (surplus_at pools node))) =
      set-set pools.free node (free_at pools node + 1)
      (free_at next node + (pages - min pages (surplus_at pools node)))
      ∙ ap (set pools.free node) fa in
      let a : total_at pools node - min pages (surplus_at pools node)
      ≡ total_at pools node - min (suc pages) (surplus_at pools node) = omega (arith, l) in
      let d : surplus_at pools node - min pages (surplus_at pools node)
      ≡ surplus_at pools node - min (suc pages) (surplus_at pools node) = omega (arith, l) in
      let f : List ℕ → List ℕ → List ℕ → PoolCounts =
      λ x y z. record pools { total = x; free = y; surplus = z } in
      rw is_out (rest ∙ ap (λ (x : ℕ). f (set pools.total node x)
      (set (one_more_at pools.free node) node
      (free_at next node + (pages - min pages (surplus_at pools node))))
      (set pools.surplus node (surplus_at pools node - min pages (surplus_at pools node)))) a
      ∙ ap (λ (y : List ℕ). f
      (set pools.total node (total_at pools node - min (suc pages) (surplus_at pools node))) y
      (set pools.surplus node (surplus_at pools node - min pages (surplus_at pools node)))) b
      ∙ ap (λ (z : ℕ). f
      (set pools.total node (total_at pools node - min (suc pages) (surplus_at pools node)))
      (set pools.free node
      (free_at pools node + (suc pages - min (suc pages) (surplus_at pools node))))
      (set pools.surplus node z)) d)
]

-- ---- what is kept

within-set : (xs ys : List ℕ) (node x y : ℕ) → node < length xs → node < length ys → x ≤ y
    → ((k : ℕ) → slice_index xs k ≤ slice_index ys k) → (k : ℕ) → slice_index (set xs node x) k
    ≤ slice_index (set ys node y) k
within-set xs ys node x y a b l all k = elim (cases_eq k node) [
  | inl e ↦
      subst (λ (n : ℕ). slice_index (set xs node x) n ≤ slice_index (set ys node y) n) (sym e)
      (omega (arith, l, get_or-set_same xs node x 0 a, get_or-set_same ys node y 0 b))
  | inr ne ↦
      omega (arith, all k, get_or-set_other xs node k x 0 ne, get_or-set_other ys node k y 0 ne)
]

few-set : (xs : List ℕ) (node x bound : ℕ) → node < length xs → x ≤ bound
    → ((k : ℕ) → slice_index xs k ≤ bound) → (k : ℕ) → slice_index (set xs node x) k ≤ bound
few-set xs node x bound a l all k = elim (cases_eq k node) [
  | inl e ↦
      subst (λ (n : ℕ). slice_index (set xs node x) n ≤ bound) (sym e)
      (omega (arith, l, get_or-set_same xs node x 0 a))
  | inr ne ↦ omega (arith, all k, get_or-set_other xs node k x 0 ne)
]

pub kept-node : (pools : PoolCounts) (node total free surplus : ℕ) → AreKept pools → node < 256
    → free ≤ total → total ≤ most
    → pools.reserved + free_at pools node ≤ sum pools.free + free
    → sum pools.surplus + surplus + total_at pools node
    ≤ sum pools.total + total + surplus_at pools node
    → AreKept (with_node_at pools node total free surplus)
kept-node pools node total free surplus kept l low high enough lasting =
    let t : node < length pools.total = omega (arith, l, kept.totals) in
    let f : node < length pools.free = omega (arith, l, kept.frees) in
    let s : node < length pools.surplus = omega (arith, l, kept.surpluses) in
    record {
      totals = length-set pools.total node total ∙ kept.totals;
      frees = length-set pools.free node free ∙ kept.frees;
      surpluses = length-set pools.surplus node surplus ∙ kept.surpluses;
      within = within-set pools.free pools.total node free total f t low kept.within;
      few = few-set pools.total node total most t high kept.few;
      reserved = omega (arith, enough, sum-set pools.free node free f);
      surplus = omega (
        arith,
        lasting,
        sum-set pools.total node total t,
        sum-set pools.surplus node surplus s,
      );
      grow = kept.grow;
      shrink = kept.shrink;
    }

pub kept-freed : (pools : PoolCounts) (node pages : ℕ) → AreKept pools → node < 256
    → free_at pools node + pages ≤ total_at pools node → AreKept (freed pools node pages)
kept-freed pools node pages kept l used =
    let ending : ℕ = min pages (surplus_at pools node) in
    kept-node pools node (total_at pools node - ending)
    (free_at pools node + (pages - ending)) (surplus_at pools node - ending) kept l
    (omega (arith, used)) (omega (arith, kept.few node)) (omega (arith, kept.reserved))
    (omega (arith, used, kept.surplus, at-le-sum pools.surplus node))
