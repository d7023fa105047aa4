use Rattle.std.proofs.Common.{◌≡◌, ℕ, ◌-◌, ◌*◌, ◌<◌, get_or, length}
use Rattle.numa_reports.proofs.turns.all_left_behind.Given as goal

abbrev pub invariant-loop-node : goal.invariant-loop-node
invariant-loop-node l = record {
  done : (n : ℕ) → n < l.node → get_or l.left n 0 ≡ get_or l.after n 0 - l.times
      * (get_or l.before n 0 - get_or l.after n 0);
  long : length l.left ≡ 256;
}
