-- The runs that are left have every page from the one on.
use Rattle.std.proofs.Common.{◌≡◌, ℕ, ◌≤◌}
use Rattle.numa_ranges.specs.Runs.{page_at}
use Rattle.numa_placed.proofs.touched.same_until.Given as goal

abbrev pub invariant-loop-run : goal.invariant-loop-run
invariant-loop-run l = (p : ℕ) → l.page ≤ p
    → page_at l.run-iterator p ≡ page_at l.places.map.runs p
