-- Pages of a child, which are mapped as its parent's, and of which none was touched.
use Rattle.std.proofs.Common.{◌≡◌, ℕ, ◌<◌, List, Option, Some, None, ap, arith, refl, subst}
use Rattle.std.proofs.Common.{◌∙◌, false, sym}
use Rattle.numa_ranges.specs.Maps.{changed_page}
use Rattle.numa_ranges.specs.Runs.{page_at}
use Rattle.numa_ranges.specs.declared.run.Run.{Run}
use Rattle.numa_ranges.proofs.Counted.{count-none}
use Rattle.numa_placed.specs.Spots.{most_runs}
use Rattle.numa_pools.specs.Pools.{PoolCounts, no_pages}
use Rattle.numa_huge.specs.Huge.{bare_spot, has_reserved, huge_at, most_pages, on_node, spot_in}
use Rattle.numa_huge.specs.Kept.{AreKept, AreOwn, ArePooled, HasNode, Others}
use Rattle.numa_huge.specs.declared.spot.HugeSpot.{HugeSpot}
use Rattle.numa_huge.specs.declared.spot.HugeSpot.TheVariants.{Bare, Reserved, On}
use Rattle.numa_huge.proofs.Keeping.{nobody}
use Rattle.numa_huge.proofs.Own.{own-all}

abbrev pub made_bare : HugeSpot → HugeSpot
made_bare spot = Bare

pub bare-sent : (p : Option (ℕ × HugeSpot))
    → spot_in (changed_page made_bare p) ≡ bare_spot (spot_in p)
bare-sent None = refl
bare-sent (Some p) = refl

pub bare-own : {inside copied : List (Run HugeSpot)} → AreOwn inside → copied ≡ inside
    → AreOwn copied
bare-own own same = subst AreOwn (sym same) own

-- a page that is bare lies nowhere, and has no reservation
bare-on : (p : Option (ℕ × HugeSpot)) (node : ℕ)
    → on_node node (spot_in (changed_page made_bare p)) ≡ false
bare-on None node = refl
bare-on (Some p) node = refl

bare-reserved : (p : Option (ℕ × HugeSpot))
    → has_reserved (spot_in (changed_page made_bare p)) ≡ false
bare-reserved None = refl
bare-reserved (Some p) = refl

pub bare-kept : (memory : ℕ) (pools : PoolCounts) (runs new : List (Run HugeSpot)) {most : ℕ}
    → pools ≡ no_pages memory → AreOwn runs
    → ((page : ℕ) → page_at new page ≡ changed_page made_bare (page_at runs page))
    → most ≡ most_runs
    → (others : Others) × AreKept others pools new × (most ≡ most_runs)
bare-kept memory pools runs new is own pages limit = (
  nobody,
  record {
    own = own-all runs new made_bare (λ spot node. tt) own pages;
    pooled = subst (λ (p : PoolCounts). ArePooled nobody p (huge_at new)) (sym is) (record {
      used = λ node small. omega (
        arith,
        count-none (λ page. on_node node (huge_at new page)) 0 most_pages
            (λ page low high. ap (λ (q : Option (ℕ × HugeSpot)). on_node node (spot_in q))
            (pages page) ∙ bare-on (page_at runs page) node),
      );
      reserved = omega (
        arith,
        count-none (λ page. has_reserved (huge_at new page)) 0 most_pages
            (λ page low high. ap (λ (q : Option (ℕ × HugeSpot)). has_reserved (spot_in q))
            (pages page) ∙ bare-reserved (page_at runs page)),
      );
    });
  },
  limit,
)
