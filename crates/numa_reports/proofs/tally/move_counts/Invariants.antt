use Rattle.std.proofs.Common.{◌≡◌, ℕ, ◌+◌, ◌-◌, ◌<◌, ◌≤◌, get_or, length}
use Rattle.std.specs.Prelude.{sum}
use Rattle.numa_reports.proofs.tally.move_counts.Given as goal

abbrev pub invariant-loop-left : goal.invariant-loop-left
invariant-loop-left l = record {
  few : sum l.counts ≤ l.left;
  kept : (n : ℕ) → n < 256 → get_or l.all n 0 + get_or l.counts n 0 ≡ get_or l.fn.all n 0 + get_or
      l.fn.counts n 0;
  none : (n : ℕ) → n < l.node → get_or l.counts n 0 ≡ 0;
  long : length l.counts ≡ 256;
  long_all : length l.all ≡ 256;
}

abbrev pub decreases-loop-left : goal.decreases-loop-left
decreases-loop-left l = 256 - l.node
