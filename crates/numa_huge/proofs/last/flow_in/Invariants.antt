-- The pages so far, and those that are left, are all.
use Rattle.std.proofs.Common.{◌≡◌, ◌+◌, ◌<◌, ◌≤◌, ℕ, drop, get_or}
use Rattle.numa_huge.specs.Tallies.{flow_in}
use Rattle.numa_huge.proofs.last.flow_in.Given as goal

abbrev pub invariant-loop-gone : goal.invariant-loop-gone
invariant-loop-gone l = record {
  sum : (to : ℕ) → to < 256 → get_or l.flow to 0 + flow_in (drop l.gone-index l.moves) l.from to
      ≡ flow_in l.moves l.from to;
  few : (to : ℕ) → to < 256 → get_or l.flow to 0 ≤ l.gone-index;
}
