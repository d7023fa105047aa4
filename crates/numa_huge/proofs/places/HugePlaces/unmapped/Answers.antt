use Rattle.std.proofs.Common.{◌∙◌, ap, arith, List, subst, sym, None}
use Rattle.std.specs.Prelude.{slice_index}
use Rattle.numa_ranges.specs.Ranges.{Ranges}
use Rattle.numa_ranges.specs.declared.run.Run.{Run}
use Rattle.numa_requests.specs.declared.page_refusal.PlacedRefusal.{PlacedRefusal}
use Rattle.numa_pools.specs.Pools.{PoolCounts, giving_back}
use Rattle.numa_huge.specs.Huge.{HugePlaced, freeing_below, has_reserved, huge_at, on_node}
use Rattle.numa_huge.specs.Huge.{pages_in, with_span}
use Rattle.numa_huge.specs.Kept.{AreKept}
use Rattle.numa_huge.specs.Tallies.{IsLackFor, lack_of}
use Rattle.numa_huge.specs.declared.spot.HugeSpot.{HugeSpot}
use Rattle.numa_huge.proofs.Keeping.{keeps-shown, kept-unmapped, lying-is, unmapped-pools}
use Rattle.numa_huge.proofs.Own.{lack-unmap, spots-without}
use Rattle.numa_huge.proofs.Pooled.{giving-fits, unmapping-fits, unmapping-reserved}
use Rattle.numa_huge.proofs.places.HugePlaces.unmapped.Goals as goal

pub free_all-requires : goal.free_all-requires
free_all-requires c node small =
    let kept = subst (λ (m : Ranges HugeSpot).
    AreKept c.self.invariant.0 c.self.inside.pools m.runs)
    (sym c.in-Ok.ensures) c.self.invariant.1 in
    omega (
      arith,
      c.counts_of-counts.ensures.on node small,
      unmapping-fits c.self.invariant.0 c.self.inside.pools (huge_at c.in-Ok.map.runs)
          c.args.first c.args.pages node c.requires.within kept.pooled small,
    )

pub give_back-requires : goal.give_back-requires
give_back-requires c =
    let kept = subst (λ (m : Ranges HugeSpot).
    AreKept c.self.invariant.0 c.self.inside.pools m.runs)
    (sym c.in-Ok.ensures) c.self.invariant.1 in
    omega (
      arith,
      c.counts_of-counts.ensures.reserved,
      giving-fits c.self.invariant.0 c.self.inside.pools (huge_at c.in-Ok.map.runs)
          c.args.first c.args.pages c.requires.within kept.pooled,
      ap (λ (p : PoolCounts). p.reserved) c.free_all.ensures,
      unmapping-reserved c.self.invariant.0 c.self.inside.pools (huge_at c.in-Ok.map.runs)
          c.args.first c.args.pages (slice_index c.counts_of-counts.result.on)
          c.requires.within c.keep.ensures kept.pooled c.counts_of-counts.ensures.on,
    )

pub returns-in-Err-clause-err : goal.returns-in-Err-clause-err
returns-in-Err-clause-err c =
    let map = c.in-Ok.map in
    let first = c.args.first in
    let n = c.args.pages in
    let kept = subst (λ (m : Ranges HugeSpot).
    AreKept c.self.invariant.0 c.self.inside.pools m.runs)
    (sym c.in-Ok.ensures) c.self.invariant.1 in
    subst (λ (why : PlacedRefusal). IsLackFor (with_span first n None
    (huge_at c.args.self.now.runs)) why) (sym c.lack_of.ensures)
    (subst (λ (runs : List (Run HugeSpot)). IsLackFor (with_span first n None (huge_at runs))
    (lack_of c.in-Err.refusal))
    (ap (λ (m : Ranges HugeSpot). m.runs) c.in-Ok.ensures
    ∙ ap (λ (p : HugePlaced). p.runs) c.self.view_is)
    (lack-unmap map.runs first n map.max_ranges c.in-Err.refusal kept.own
    (ap (λ (m : Ranges HugeSpot). m.max_ranges) c.in-Ok.ensures ∙ c.self.invariant.2)
    c.in-Err.ensures.err))

pub invariant_of-result : goal.invariant_of-result
invariant_of-result c =
    let map = c.in-Ok.map in
    let counts = c.counts_of-counts in
    let kept = subst (λ (m : Ranges HugeSpot).
    AreKept c.self.invariant.0 c.self.inside.pools m.runs)
    (sym c.in-Ok.ensures) c.self.invariant.1 in (
      c.self.invariant.0,
      kept-unmapped c.self.invariant.0 c.self.inside.pools c.give_back.new.self map.runs
          c.unmap_span.new.self.runs c.args.first c.args.pages c.requires.within c.keep.ensures
          c.keep-2.ensures
          kept c.in_default-unmap_span.ensures.ok
          (c.give_back.ensures
          ∙ ap (λ (p : PoolCounts). giving_back p counts.result.reserved) c.free_all.ensures
          ∙ unmapped-pools c.self.inside.pools (huge_at map.runs) c.args.first c.args.pages
          counts.result.reserved (slice_index counts.result.on) counts.ensures.on
          counts.ensures.reserved),
      c.unmap_span.ensures.max_ranges
          ∙ ap (λ (m : Ranges HugeSpot). m.max_ranges) c.in-Ok.ensures ∙ c.self.invariant.2,
    )

pub returns-clause-ok : goal.returns-clause-ok
returns-clause-ok c =
    let map = c.in-Ok.map in
    let counts = c.counts_of-counts in
    let first = c.args.first in
    let n = c.args.pages in
    let runs = ap (λ (m : Ranges HugeSpot). m.runs) c.in-Ok.ensures
    ∙ ap (λ (p : HugePlaced). p.runs) c.self.view_is in
    lying-is c.give_back.new.self (giving_back (freeing_below 256
    (λ node. pages_in (on_node node) (huge_at c.args.self.now.runs) first n)
    c.args.self.now.pools) (pages_in has_reserved (huge_at c.args.self.now.runs) first n))
    (huge_at c.unmap_span.new.self.runs)
    (with_span first n None (huge_at c.args.self.now.runs))
    (c.give_back.ensures
    ∙ ap (λ (p : PoolCounts). giving_back p counts.result.reserved) c.free_all.ensures
    ∙ unmapped-pools c.self.inside.pools (huge_at map.runs) first n
    counts.result.reserved (slice_index counts.result.on) counts.ensures.on
    counts.ensures.reserved
    ∙ ap (λ (r : List (Run HugeSpot)). giving_back (freeing_below 256
    (λ node. pages_in (on_node node) (huge_at r) first n)
    c.self.inside.pools) (pages_in has_reserved (huge_at r) first n)) runs
    ∙ ap (λ (p : HugePlaced). giving_back (freeing_below 256
    (λ node. pages_in (on_node node) (huge_at c.args.self.now.runs) first n)
    p.pools) (pages_in has_reserved (huge_at c.args.self.now.runs) first n)) c.self.view_is)
    (λ page. spots-without map.runs c.unmap_span.new.self.runs first n
    c.in_default-unmap_span.ensures.ok page
    ∙ ap (λ (r : List (Run HugeSpot)). with_span first n None (huge_at r) page) runs)

pub returns-clause-keeps : goal.returns-clause-keeps
returns-clause-keeps c =
    let map = c.in-Ok.map in
    let counts = c.counts_of-counts in
    keeps-shown (record { pools = c.self.inside.pools; runs = map.runs }) c.args.self.now
    (record { pools = c.give_back.new.self; runs = c.unmap_span.new.self.runs })
    (ap (λ (m : Ranges HugeSpot). record { pools = c.self.inside.pools; runs = m.runs })
    c.in-Ok.ensures ∙ c.self.view_is)
    (λ others pooled. (kept-unmapped others c.self.inside.pools c.give_back.new.self map.runs
    c.unmap_span.new.self.runs c.args.first c.args.pages c.requires.within c.keep.ensures
    c.keep-2.ensures
    (record {
      own = (subst (λ (m : Ranges HugeSpot).
          AreKept c.self.invariant.0 c.self.inside.pools m.runs)
          (sym c.in-Ok.ensures) c.self.invariant.1).own;
      pooled = pooled;
    })
    c.in_default-unmap_span.ensures.ok
    (c.give_back.ensures
    ∙ ap (λ (p : PoolCounts). giving_back p counts.result.reserved) c.free_all.ensures
    ∙ unmapped-pools c.self.inside.pools (huge_at map.runs) c.args.first c.args.pages
    counts.result.reserved (slice_index counts.result.on) counts.ensures.on
    counts.ensures.reserved)).pooled)
