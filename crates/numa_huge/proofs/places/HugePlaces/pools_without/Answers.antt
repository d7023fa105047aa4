use Rattle.std.proofs.Common.{◌≡◌, ◌∙◌, None, ap, arith, subst, sym}
use Rattle.std.specs.Prelude.{slice_index}
use Rattle.numa_pools.specs.Pools.{PoolCounts, giving_back}
use Rattle.numa_pools.specs.Kept.{AreKept as ArePools}
use Rattle.numa_huge.specs.Huge.{HugePlaced, all_gone, huge_at, most_pages, places_of, with_span}
use Rattle.numa_huge.specs.Kept.{ArePooled, Keeps}
use Rattle.numa_huge.proofs.Keeping.{unmapped-pools}
use Rattle.numa_huge.proofs.Pooled.{giving-fits, pooled-unmapping, unmapping-fits, unmapping-reserved}
use Rattle.numa_huge.proofs.places.HugePlaces.pools_without.Goals as goal

pub free_all-requires : goal.free_all-requires
free_all-requires c node small = omega (
  arith,
  c.counts_of-counts.ensures.on node small,
  unmapping-fits c.self.invariant.0 c.self.inside.pools (huge_at c.self.inside.map.runs) 0
      most_pages node (omega arith) c.self.invariant.1.pooled small,
)

pub give_back-requires : goal.give_back-requires
give_back-requires c = omega (
  arith,
  c.counts_of-counts.ensures.reserved,
  giving-fits c.self.invariant.0 c.self.inside.pools (huge_at c.self.inside.map.runs) 0
      most_pages (omega arith) c.self.invariant.1.pooled,
  ap (λ (p : PoolCounts). p.reserved) c.free_all.ensures,
  unmapping-reserved c.self.invariant.0 c.self.inside.pools (huge_at c.self.inside.map.runs) 0
      most_pages (slice_index c.counts_of-counts.result.on) (omega arith) c.keep.ensures
      c.self.invariant.1.pooled c.counts_of-counts.ensures.on,
)

pub returns-clause-pools : goal.returns-clause-pools
returns-clause-pools c =
    let counts = c.counts_of-counts in
    c.give_back.ensures
    ∙ ap (λ (p : PoolCounts). giving_back p counts.result.reserved) c.free_all.ensures
    ∙ unmapped-pools c.self.inside.pools (huge_at c.self.inside.map.runs) 0 most_pages
    counts.result.reserved (slice_index counts.result.on) counts.ensures.on
    counts.ensures.reserved
    ∙ ap (λ (p : HugePlaced). all_gone (places_of p)) c.self.view_is

pub returns-clause-keeps : goal.returns-clause-keeps
returns-clause-keeps c =
    let counts = c.counts_of-counts in
    let shown : HugePlaced = record {
      pools = c.self.inside.pools;
      runs = c.self.inside.map.runs;
    } in
    let is : c.give_back.new.self ≡ all_gone (places_of shown) =
    c.give_back.ensures
    ∙ ap (λ (p : PoolCounts). giving_back p counts.result.reserved) c.free_all.ensures
    ∙ unmapped-pools c.self.inside.pools (huge_at c.self.inside.map.runs) 0 most_pages
    counts.result.reserved (slice_index counts.result.on) counts.ensures.on
    counts.ensures.reserved in
    subst (λ (p : HugePlaced). Keeps (places_of p) (record {
      pools = c.give_back.new.self;
      spots = with_span 0 most_pages None (huge_at p.runs);
    })) c.self.view_is (λ others pooled.
    subst (λ (p : PoolCounts). ArePooled others p
    (with_span 0 most_pages None (huge_at c.self.inside.map.runs))) (sym is)
    (pooled-unmapping others c.self.inside.pools (huge_at c.self.inside.map.runs) 0 most_pages
    (omega arith) c.keep.ensures (subst ArePools is c.keep-2.ensures) pooled))
