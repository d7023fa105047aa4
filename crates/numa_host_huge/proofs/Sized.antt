-- The pools of a host change, and no page.
use Rattle.std.proofs.Common.{◌≡◌, ℕ, ◌+◌, ◌<◌, ◌≤◌, Option, None, List, Result, Ok, Err, OnErr}
use Rattle.std.proofs.Common.{OnOk, [], refl, sym, arith, subst, ap, length, ◌∙◌}
use Rattle.numa_mask.specs.NodeSet.{with_node}
use Rattle.numa_ranges.proofs.Counted.{count-none}
use Rattle.numa_pools.specs.Kept.{AreKept as ArePools}
use Rattle.numa_pools.specs.Pools.{PoolCounts, no_pages, refusing}
use Rattle.numa_pools.specs.Resize.{goal_for, resized, resized_node}
use Rattle.numa_huge.specs.Huge.{has_reserved, most_pages, on_node}
use Rattle.numa_huge.specs.Kept.{ArePooled}
use Rattle.numa_huge.proofs.Pooled.{pooled-refusing, pooled-resized}
use Rattle.numa_host_huge.specs.Kept.{AreShared, all_on, all_reserved}
use Rattle.numa_host_huge.specs.declared.sharer.Sharer.{Sharer}
use Rattle.numa_host_huge.proofs.Sums.{all_of, on-is, pooled-all, reserved-is}

pub shared-none : (pools : PoolCounts) (memory : ℕ) (xs : List Sharer) → pools ≡ no_pages memory
    → xs ≡ [] → AreShared pools xs
shared-none pools memory xs is none =
    rw (is, none) (record {
      used = λ node small. omega arith;
      reserved = refl;
      few = omega arith;
    })

-- what is kept of all processes is kept of one that has no page, beside them
shared-back : (pools : PoolCounts) (xs : List Sharer) (few : length xs ≤ 4096)
    → ArePooled (all_of xs few) pools (λ page. None) → AreShared pools xs
shared-back pools xs few pooled = record {
  used = λ node small. omega (
    arith,
    pooled.used node small,
    on-is xs node,
    count-none (λ page. on_node node None) 0 most_pages (λ page low high. refl),
  );
  reserved = omega (
    arith,
    pooled.reserved,
    reserved-is xs,
    count-none (λ page. has_reserved None) 0 most_pages (λ page low high. refl),
  );
  few = few;
}

pub shared-resized : (pools after : PoolCounts) (xs : List Sharer) (nodes allowed goal : ℕ)
    → ArePools pools → AreShared pools xs → after ≡ resized nodes allowed goal pools
    → AreShared after xs
shared-resized pools after xs nodes allowed goal are shared is =
    shared-back after xs shared.few (subst (λ (p : PoolCounts). ArePooled (all_of xs shared.few) p
    (λ page. None)) (sym is) (pooled-resized (all_of xs shared.few) pools (λ page. None) nodes
    allowed goal are (pooled-all pools xs shared)))

pub shared-node : {E : Type 0} (r : Result (Unit {0}) E) (pools after : PoolCounts)
    (xs : List Sharer) (node allowed count : ℕ) → ArePools pools → AreShared pools xs
    → OnOk r (after ≡ resized_node node allowed count pools) → OnErr r (after ≡ pools)
    → AreShared after xs
shared-node (Ok done) pools after xs node allowed count are shared is same =
    shared-resized pools after xs (with_node 0 node) allowed (goal_for pools node count) are
    shared is
shared-node (Err why) pools after xs node allowed count are shared is same =
    subst (λ (p : PoolCounts). AreShared p xs) (sym same) shared

pub shared-refused : (pools after : PoolCounts) (xs : List Sharer) (pages : ℕ) → ArePools pools
    → ArePools after → AreShared pools xs → after ≡ refusing pools pages → AreShared after xs
shared-refused pools after xs pages are so shared is =
    shared-back after xs shared.few (subst (λ (p : PoolCounts). ArePooled (all_of xs shared.few) p
    (λ page. None)) (sym is) (pooled-refusing (all_of xs shared.few) pools (λ page. None) pages are
    (subst ArePools is so) (pooled-all pools xs shared)))

-- a copy has the same pages
pub shared-copied : (pools : PoolCounts) (xs olds news : List Sharer) → olds ≡ []
    → AreShared pools xs → ((node : ℕ) → all_on news node ≡ all_on olds node + all_on xs node)
    → all_reserved news ≡ all_reserved olds + all_reserved xs
    → length news ≡ length olds + length xs → AreShared pools news
shared-copied pools xs olds news none shared on reserved count =
    let on_none : (node : ℕ) → all_on olds node ≡ 0 =
    λ node. ap (λ (s : List Sharer). all_on s node) none in
    let reserved_none : all_reserved olds ≡ 0 = ap all_reserved none in
    let count_none : length olds ≡ 0 = ap (λ (s : List Sharer). length s) none in
    record {
      used = λ node small. omega (arith, shared.used node small, on node, on_none node);
      reserved = omega (arith, shared.reserved, reserved, reserved_none);
      few = omega (arith, shared.few, count, count_none);
    }
