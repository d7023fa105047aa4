use Rattle.std.proofs.Common.{◌≡◌, ℕ, ◌+◌, ◌<◌, ◌&&◌, ◌==◌, get_or, length}
use Rattle.numa_ranges.specs.Counts.{count_pages}
use Rattle.numa_reports.specs.Moved.{moves_in}
use Rattle.numa_reports.proofs.moves.add_pairs.Given as goal

abbrev pub invariant-loop-k : goal.invariant-loop-k
invariant-loop-k l = record {
  counted : (from to : ℕ) → from < 256 → to < 256 → moves_in l.table.items from to
      ≡ moves_in l.fn.table.items from to + count_pages (λ k. (get_or l.before k 0 == from)
      && (get_or l.after k 0 == to)) 0 l.k;
  entries : length l.table.items ≡ 65536;
}
