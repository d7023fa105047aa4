use Rattle.std.proofs.Common.{◌<◌, ◌≤◌, ℕ, get_or}
use Rattle.numa_lanes.proofs.ends.greatest_lane.Given as goal

abbrev pub invariant-loop-lane : goal.invariant-loop-lane
invariant-loop-lane l = (j : ℕ) → j < l.lane-index → get_or l.lane-items j 0 ≤ l.greatest
