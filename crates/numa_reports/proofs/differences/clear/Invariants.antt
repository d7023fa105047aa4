use Rattle.std.proofs.Common.{◌≡◌, ℕ, ◌<◌, get_or, length}
use Rattle.numa_reports.proofs.differences.clear.Given as goal

abbrev pub invariant-loop-place : goal.invariant-loop-place
invariant-loop-place l = record {
  entries : length l.table.items ≡ 65536;
  none : (k : ℕ) → k < l.place → get_or l.table.items k 0 ≡ 0;
}
