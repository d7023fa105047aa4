use Rattle.std.proofs.Common.{◌≡◌, ℕ, List, ◌++◌, MatchOption}
use Rattle.numa_lines.specs.Written.{Said}
use Rattle.numa_huge.specs.Huge.{places_of}
use Rattle.numa_huge.specs.Moves.{HugeMemory}
use Rattle.numa_ranges.specs.Runs.{AreApart}
use Rattle.numa_space.specs.Standing.{policy_in}
use Rattle.numa_run.specs.Listings.{either_lines}
use Rattle.numa_page_state.specs.Standing.{LieThere}
use Rattle.numa_placed.specs.declared.spot.Spot.{Spot}
use Rattle.numa_placed.specs.declared.spot.Spot.TheVariants.{Nowhere}
use Rattle.numa_run.proofs.listing.say_each.Given as goal

abbrev pub invariant-loop-range : goal.invariant-loop-range
invariant-loop-range g l = record {
  wrote : (spots : ℕ → Spot) (memory : HugeMemory)
      → MatchOption l.pages ((page : ℕ) → spots page ≡ Nowhere) (λ kept. LieThere kept.now spots)
      → places_of l.huge ≡ memory.pages → (sent : List ℕ)
      × Said g.W.Write.contents l.fn.output l.output sent
      × (either_lines (policy_in l.space l.task) l.resident spots memory l.space.ranges
      ≡ sent ++ either_lines (policy_in l.space l.task) l.resident spots memory
      l.range-iterator);
  apart : (from : ℕ) × AreApart from l.range-iterator;
}
