use Rattle.std.proofs.Common.{ℕ, ◌<◌, ◌≤◌, get_or}
use Rattle.numa_reports.specs.Turns.{Lasts}
use Rattle.numa_reports.proofs.turns.all_times_left.Given as goal

abbrev pub invariant-loop-node : goal.invariant-loop-node
invariant-loop-node l = record {
  few : l.times ≤ l.most;
  last : (n : ℕ) → n < l.node → Lasts (get_or l.before n 0) (get_or l.after n 0) l.times;
}
