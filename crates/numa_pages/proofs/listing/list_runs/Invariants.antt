-- The runs listed so far, before those of the pages that are left, are all.
use Rattle.std.proofs.Common.{◌≡◌, ℕ, ◌-◌, ◌≤◌, ◌^◌, ◌++◌, List}
use Rattle.std.specs.Prelude.{MatchOption}
use Rattle.numa_placed.specs.Spots.{spot_at}
use Rattle.numa_placed.specs.declared.spot.Spot.{Spot}
use Rattle.numa_huge.specs.Huge.{places_of}
use Rattle.numa_pages.specs.Listing.{AreListed}
use Rattle.numa_pages.specs.Sizes.{both_spots}
use Rattle.numa_pages.specs.declared.listing.PageRun.{PageRun}
use Rattle.numa_pages.proofs.listing.list_runs.Given as goal

abbrev pub invariant-loop-page : goal.invariant-loop-page
invariant-loop-page l = record {
  near : l.page ≤ 2 ^ 35;
  listed : (spots : ℕ → Spot) → MatchOption l.huge ((p : ℕ) → spots p ≡ spot_at l.placed p)
      (λ it. (p : ℕ) → spots p ≡ both_spots (places_of it.now) (spot_at l.placed) p)
      → (rest : List PageRun) → AreListed spots l.page rest
      → AreListed spots 0 (l.list.items ++ rest);
}

abbrev pub decreases-loop-page : goal.decreases-loop-page
decreases-loop-page l = 2 ^ 35 - l.page
