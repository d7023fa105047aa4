-- Pools that are lent to the pages of one process.
use Rattle.std.proofs.Common.{◌≡◌, ◌≢◌, ℕ, suc, zero, ◌<◌, ◌∙◌, Option, List, [], ◌∷◌, length}
use Rattle.std.proofs.Common.{get_or, refl, sym, ap, arith, subst}
use Rattle.numa_pools.specs.Pools.{PoolCounts}
use Rattle.numa_huge.specs.Huge.{huge_at}
use Rattle.numa_huge.specs.Kept.{ArePooled}
use Rattle.numa_huge.specs.declared.pages.HugePages.{HugePages}
use Rattle.numa_huge.specs.declared.spot.HugeSpot.{HugeSpot}
use Rattle.numa_host_huge.specs.Kept.{AreShared, HugeKept, IsChanged, spots_of}
use Rattle.numa_host_huge.specs.Kept.{with_lent}
use Rattle.numa_host_huge.specs.Sharing.{HugeHome, Sharing}
use Rattle.numa_host_huge.specs.Standing.{HugeLies, IsHome, IsSame, LiesApart}
use Rattle.numa_host_huge.specs.declared.sharer.Sharer.{Sharer}
use Rattle.numa_host_huge.proofs.Changed.{homes-kept}
use Rattle.numa_host_huge.proofs.Places.{some-sharer}
use Rattle.numa_host_huge.proofs.Sums.{others_at, pooled-at, shared-changed}

module _ (pools : PoolCounts) (xs ys : List Sharer) (place : ℕ) (d : Sharer)
    (changed : IsChanged place xs ys (with_lent pools)) where
  pub lent-spots : spots_of (get_or ys place d) ≡ spots_of (get_or xs place d)
  lent-spots = ap (λ (p : HugePages). huge_at p.places.runs) (changed.pages d)

  pub lent-pools : (get_or ys place d).pages.value.places.pools ≡ pools
  lent-pools = ap (λ (p : HugePages). p.places.pools) (changed.pages d)

  pub lent-shared : AreShared pools xs → place < length xs → AreShared pools ys
  lent-shared shared inside = shared-changed pools pools xs ys place d shared inside
      changed.at.length (λ k ne. changed.at.others k d ne)
      (subst (λ (s : ℕ → Option HugeSpot). ArePooled (others_at xs place shared.few) pools s)
      (sym lent-spots) (pooled-at pools xs place d shared inside))

  pub lent-home : (home : HugeHome) → IsHome (get_or xs place d) home
      → IsHome (get_or ys place d) home
  lent-home home is = record {
    id = changed.at.id d ∙ is.id;
    pages = subst (λ (p : HugePages). LiesApart p home) (sym (changed.pages d)) (
      pools,
      record {
        pages = λ i. record { pools = pools; spots = (is.pages.1.pages i).spots };
        told = is.pages.1.told;
        arrived = is.pages.1.arrived;
      },
    );
  }

pub lent-same : (old : HugeKept) (ys : List Sharer) (place : ℕ) → place < length old.sharers
    → IsChanged place old.sharers ys (with_lent old.pools)
    → IsSame old (record { pools = old.pools; sharers = ys })
lent-same old ys place inside changed at lies =
    let d = some-sharer old.sharers place inside in
    record {
      pools = lies.pools;
      homes = homes-kept old.sharers ys at.homes place d changed.at lies.homes
          (lent-home old.pools old.sharers ys place d changed);
    }
