-- The runs that are left say from the place on what all do, and rise.
use Rattle.std.proofs.Common.{◌≡◌, ℕ, ◌≤◌}
use Rattle.numa_ranges.specs.Runs.{page_at, AreApart}
use Rattle.numa_objects.proofs.object.Object.piece_at.Given as goal

abbrev pub invariant-loop-run : goal.invariant-loop-run
invariant-loop-run l = record {
  same : (page : ℕ) → l.place ≤ page → page_at l.run-iterator page
      ≡ page_at l.self.policies page;
  apart : (low : ℕ) × AreApart low l.run-iterator;
}
