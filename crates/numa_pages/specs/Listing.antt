-- The runs of pages that lie somewhere, as a list.
use Rattle.std.specs.Prelude.{◌≡◌, ◌≢◌, ℕ, ◌+◌, ◌<◌, ◌≤◌, ◌^◌, List, [], ◌∷◌}
use Rattle.numa_placed.specs.declared.spot.Spot.{Spot}
use Rattle.numa_placed.specs.declared.spot.Spot.TheVariants.{Nowhere, Stated}
use Rattle.numa_pages.specs.declared.listing.PageRun.{PageRun}

-- pages that lie on one node, of which the one behind, if there is any, doesn't
pub record IsMaximal (spots : ℕ → Spot) (run : PageRun) : Type 0 where
  pub some : 0 < run.pages
  pub within : run.first + run.pages ≤ 2 ^ 35
  pub alike : (page : ℕ) → run.first ≤ page → page < run.first + run.pages
      → spots page ≡ Stated run.node
  pub ends : run.first + run.pages < 2 ^ 35 → spots (run.first + run.pages) ≢ Stated run.node

-- the pages from one up to another all lie nowhere
abbrev pub AreNowhere : (ℕ → Spot) → ℕ → ℕ → Type 0
AreNowhere spots from end = (page : ℕ) → from ≤ page → page < end → spots page ≡ Nowhere

-- the runs of the pages from one on that lie somewhere, in ascending order
abbrev pub AreListed : (ℕ → Spot) → ℕ → List PageRun → Type 0
AreListed spots from [] = AreNowhere spots from (2 ^ 35)
AreListed spots from (run ∷ runs) = (from ≤ run.first) × AreNowhere spots from run.first
    × IsMaximal spots run × AreListed spots (run.first + run.pages) runs
