use Rattle.std.proofs.Common.{◌≡◌, ℕ, ◌≤◌, ◌<◌, ◌+◌, ◌-◌, length, get_or}
use Rattle.numa_ranges.specs.Counts.{count_pages}
use Rattle.numa_plan.proofs.PartLemmas.{part_is}
use Rattle.numa_plan.proofs.parts.add_parts.Given as goal

abbrev pub invariant-loop-done : goal.invariant-loop-done
invariant-loop-done l = record {
  within : l.done ≤ l.pages;
  long : length l.counts ≡ 256;
  added : (node : ℕ) → node < 256 → get_or l.counts node 0 ≡ get_or l.fn.counts node 0
      + count_pages (part_is l.cycle node) l.index l.done;
}

abbrev pub decreases-loop-done : goal.decreases-loop-done
decreases-loop-done l = l.pages - l.done
