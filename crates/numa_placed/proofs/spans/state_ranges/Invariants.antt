-- Stating it of the pages of the ranges that are left gives what is to be.
use Rattle.std.proofs.Common.{◌≡◌, ℕ, is_some}
use Rattle.numa_ranges.specs.Runs.{page_at}
use Rattle.numa_placed.specs.Spots.{stated_spots}
use Rattle.numa_placed.specs.Turns.{AreKept, spots_of}
use Rattle.numa_placed.proofs.Stating.{AreLeft}
use Rattle.numa_placed.proofs.spans.state_ranges.Given as goal

abbrev pub invariant-loop-range : goal.invariant-loop-range
invariant-loop-range l = record {
  kept : AreKept l.places;
  limit : l.places.map.max_ranges ≡ l.fn.places.map.max_ranges;
  left : AreLeft l.range-iterator;
  spots : (page : ℕ) → stated_spots (λ p. is_some (page_at l.range-iterator p)) l.said.first
      l.said.pages l.said.node (spots_of l.places) page
      ≡ stated_spots (λ p. is_some (page_at l.space.ranges p)) l.said.first l.said.pages
      l.said.node (spots_of l.fn.places) page;
}
