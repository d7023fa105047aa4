use Rattle.std.proofs.Common.{◌≡◌, ℕ, ◌≤◌, ◌∙◌, ap, arith, List, refl, subst, sym, true, Some}
use Rattle.std.specs.Prelude.{if◌then◌else◌}
use Rattle.numa_ranges.specs.Ranges.{Ranges}
use Rattle.numa_ranges.specs.declared.run.Run.{Run}
use Rattle.numa_requests.specs.declared.page_refusal.PlacedRefusal.{PlacedRefusal}
use Rattle.numa_pools.specs.Pools.{reserving}
use Rattle.numa_huge.specs.Huge.{HugePlaced, fits, fresh_spot, huge_at, with_span}
use Rattle.numa_huge.specs.Kept.{AreKept}
use Rattle.numa_huge.specs.Tallies.{IsLackFor, lack_of}
use Rattle.numa_huge.specs.declared.spot.HugeSpot.{HugeSpot}
use Rattle.numa_huge.proofs.Keeping.{IsFit, fits-are, kept-mapped, lying-is}
use Rattle.numa_huge.proofs.Own.{few-kept, lack-map, own-mapped, spots-mapped}
use Rattle.numa_huge.proofs.places.HugePlaces.mapped_runs.Goals as goal

-- the copy's pages fit as those that are shown
fit-of : (map inside : Ranges HugeSpot) (shown : List (Run HugeSpot)) (first n : ℕ) → map ≡ inside
    → inside.runs ≡ shown → fits (huge_at shown) first n ≡ true → IsFit (huge_at map.runs) first n
fit-of map inside shown first n copied is fit =
    fits-are (huge_at map.runs) first n
    (subst (λ (runs : List (Run HugeSpot)). fits (huge_at runs) first n ≡ true)
    (sym (ap (λ (m : Ranges HugeSpot). m.runs) copied ∙ is)) fit)

pub map_span-requires-clause-span : goal.map_span-requires-clause-span
map_span-requires-clause-span c =
    let fit = fit-of c.in-Ok.map c.self.inside.map c.args.self.now.runs c.args.first c.args.pages
    c.in-Ok.ensures (ap (λ (p : HugePlaced). p.runs) c.self.view_is) c.requires.fits in
    record { some = fit.some; within = omega (arith, fit.within) }

pub map_span-requires-clause-index : goal.map_span-requires-clause-index
map_span-requires-clause-index c =
    let fit = fit-of c.in-Ok.map c.self.inside.map c.args.self.now.runs c.args.first c.args.pages
    c.in-Ok.ensures (ap (λ (p : HugePlaced). p.runs) c.self.view_is) c.requires.fits in
    omega (arith, fit.within)

pub returns-in-Err-clause-err : goal.returns-in-Err-clause-err
returns-in-Err-clause-err c =
    let map = c.in-Ok.map in
    let first = c.args.first in
    let n = c.args.pages in
    let fit = fit-of map c.self.inside.map c.args.self.now.runs first n
    c.in-Ok.ensures (ap (λ (p : HugePlaced). p.runs) c.self.view_is) c.requires.fits in
    let own = subst (λ (m : Ranges HugeSpot). AreKept c.self.invariant.0 c.self.inside.pools m.runs)
    (sym c.in-Ok.ensures) c.self.invariant.1 in
    subst (λ (why : PlacedRefusal). IsLackFor (with_span first n
    (Some (fresh_spot c.args.reserves)) (huge_at c.args.self.now.runs)) why)
    (sym c.lack_of.ensures)
    (subst (λ (spot : HugeSpot). IsLackFor (with_span first n (Some spot)
    (huge_at c.args.self.now.runs)) (lack_of c.in-Err.refusal)) c.fresh.ensures
    (subst (λ (runs : List (Run HugeSpot)). IsLackFor (with_span first n (Some c.fresh.result)
    (huge_at runs)) (lack_of c.in-Err.refusal))
    (ap (λ (m : Ranges HugeSpot). m.runs) c.in-Ok.ensures
    ∙ ap (λ (p : HugePlaced). p.runs) c.self.view_is)
    (lack-map map.runs first n map.max_ranges c.in-Err.refusal own.own
    (ap (λ (m : Ranges HugeSpot). m.max_ranges) c.in-Ok.ensures ∙ c.self.invariant.2)
    c.fresh.result fit.free c.in-Err.ensures.err)))

pub returns-clause-ok : goal.returns-clause-ok
returns-clause-ok c =
    let map = c.in-Ok.map in
    let first = c.args.first in
    let n = c.args.pages in
    lying-is (if c.args.reserves then reserving c.args.self.now.pools n else c.args.self.now.pools)
    (if c.args.reserves then reserving c.args.self.now.pools n else c.args.self.now.pools)
    (huge_at c.map_span.new.self.runs)
    (with_span first n (Some (fresh_spot c.args.reserves)) (huge_at c.args.self.now.runs))
    refl
    (λ page. spots-mapped map.runs c.map_span.new.self.runs first n c.fresh.result
    c.in_default-map_span.ensures.ok page
    ∙ ap (λ (spot : HugeSpot). with_span first n (Some spot) (huge_at map.runs) page)
    c.fresh.ensures
    ∙ ap (λ (m : Ranges HugeSpot). with_span first n (Some (fresh_spot c.args.reserves))
    (huge_at m.runs) page) c.in-Ok.ensures
    ∙ ap (λ (p : HugePlaced). with_span first n (Some (fresh_spot c.args.reserves))
    (huge_at p.runs) page) c.self.view_is)

pub returns-clause-may : goal.returns-clause-may
returns-clause-may c =
    let map = c.in-Ok.map in
    let first = c.args.first in
    let n = c.args.pages in
    let fit = fit-of map c.self.inside.map c.args.self.now.runs first n
    c.in-Ok.ensures (ap (λ (p : HugePlaced). p.runs) c.self.view_is) c.requires.fits in
    record {
      kept = λ others kept. kept-mapped others c.args.self.now.pools
          (if c.args.reserves then reserving c.args.self.now.pools n else c.args.self.now.pools)
          map.runs c.map_span.new.self.runs first n c.args.reserves c.fresh.result fit
          (subst (λ (runs : List (Run HugeSpot)). AreKept others c.args.self.now.pools runs)
          (sym (ap (λ (m : Ranges HugeSpot). m.runs) c.in-Ok.ensures
          ∙ ap (λ (p : HugePlaced). p.runs) c.self.view_is)) kept)
          c.fresh.ensures c.in_default-map_span.ensures.ok refl;
      most = c.map_span.ensures.max_ranges
          ∙ ap (λ (m : Ranges HugeSpot). m.max_ranges) c.in-Ok.ensures ∙ c.self.invariant.2;
    }

pub returns-clause-few : goal.returns-clause-few
returns-clause-few c =
    let map = c.in-Ok.map in
    let fit = fit-of map c.self.inside.map c.args.self.now.runs c.args.first c.args.pages
    c.in-Ok.ensures (ap (λ (p : HugePlaced). p.runs) c.self.view_is) c.requires.fits in
    let kept = subst (λ (m : Ranges HugeSpot).
    AreKept c.self.invariant.0 c.self.inside.pools m.runs)
    (sym c.in-Ok.ensures) c.self.invariant.1 in
    let mapped = kept-mapped c.self.invariant.0 c.self.inside.pools
    (if c.args.reserves then reserving c.self.inside.pools c.args.pages else c.self.inside.pools)
    map.runs c.map_span.new.self.runs c.args.first c.args.pages c.args.reserves c.fresh.result fit
    kept c.fresh.ensures c.in_default-map_span.ensures.ok refl in
    few-kept c.map_span.new.self.runs c.len.result mapped.own c.len.ensures.count
    (omega (
      arith,
      c.len.ensures.max_ranges,
      c.map_span.ensures.max_ranges
          ∙ ap (λ (m : Ranges HugeSpot). m.max_ranges) c.in-Ok.ensures ∙ c.self.invariant.2,
    ))
