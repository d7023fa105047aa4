use Rattle.std.proofs.Common.{◌≡◌, ℕ, List, ◌++◌}
use Rattle.numa_lines.specs.Written.{Said}
use Rattle.numa_ranges.specs.Runs.{AreApart}
use Rattle.numa_space.specs.Standing.{policy_in}
use Rattle.numa_maps.specs.Listing.{listing, listing_in}
use Rattle.numa_maps.proofs.listing.say_maps.Given as goal

abbrev pub invariant-loop-range : goal.invariant-loop-range
invariant-loop-range g l = record {
  wrote : (sent : List ℕ) × Said g.W.Write.contents l.fn.output l.output sent
      × (listing_in l.space l.task l.resident ≡ sent ++ listing (policy_in l.space l.task)
      l.resident l.range-iterator);
  apart : (from : ℕ) × AreApart from l.range-iterator;
}
