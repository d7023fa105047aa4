-- The parts of the pages so far.
use Rattle.std.proofs.Common.{◌≡◌, ◌≤◌, ◌+◌, ◌-◌, ℕ}
use Rattle.numa_placed.specs.Spots.{spot_at}
use Rattle.numa_placed.specs.declared.spot.Spot.TheVariants.{Stated}
use Rattle.numa_huge.specs.Huge.{huge_at}
use Rattle.numa_page_state.specs.Huge.{with_parts}
use Rattle.numa_page_state.proofs.beside.mark_parts.Given as goal

abbrev pub invariant-loop-page : goal.invariant-loop-page
invariant-loop-page l = record {
  rises : l.fn.span.first ≤ l.page;
  high : l.page ≤ l.fn.span.first + l.fn.span.pages;
  spots : (part : ℕ) → spot_at l.placed part ≡ with_parts (Stated 0) (huge_at l.huge.runs)
      l.fn.span.first (l.page - l.fn.span.first) (spot_at l.fn.placed) part;
}

abbrev pub decreases-loop-page : goal.decreases-loop-page
decreases-loop-page l = l.fn.span.first + l.fn.span.pages - l.page
