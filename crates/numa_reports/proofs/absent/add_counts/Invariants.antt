use Rattle.std.proofs.Common.{◌≡◌, ℕ, ◌+◌, ◌<◌, ◌≤◌, ◌^◌, get_or, length}
use Rattle.numa_reports.proofs.absent.add_counts.Given as goal

abbrev pub invariant-loop-node : goal.invariant-loop-node
invariant-loop-node l = record {
  done : (n : ℕ) → n < l.node → get_or l.fn.all n 0 + get_or l.counts n 0 < 2 ^ 64
      → get_or l.all n 0 ≡ get_or l.fn.all n 0 + get_or l.counts n 0;
  left : (n : ℕ) → l.node ≤ n → get_or l.all n 0 ≡ get_or l.fn.all n 0;
  long : length l.all ≡ 256;
}
