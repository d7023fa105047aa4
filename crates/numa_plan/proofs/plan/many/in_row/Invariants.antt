use Rattle.std.proofs.Common.{◌≡◌, ℕ, ◌≤◌, ◌<◌, ◌+◌, ◌-◌, get_or}
use Rattle.numa_plan.proofs.plan.many.in_row.Given as goal

abbrev pub invariant-loop-count : goal.invariant-loop-count
invariant-loop-count l = record {
  some : 0 < l.count;
  within : l.count ≤ l.end;
  each : (k : ℕ) → k < l.count → get_or l.pages k 0 ≡ get_or l.pages 0 0 + k;
}

abbrev pub decreases-loop-count : goal.decreases-loop-count
decreases-loop-count l = l.end - l.count
