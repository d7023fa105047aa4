use Rattle.std.proofs.Common.{ℕ, ◌+◌, ◌<◌, ◌≤◌, false}
use Rattle.numa_core.specs.Standing.{frames_before}
use Rattle.numa_core.proofs.places.Places.lowest.Given as goal

abbrev pub invariant-loop-number : goal.invariant-loop-number
invariant-loop-number g l = (k : ℕ) → l.from ≤ k → k < l.number
    → goal.F-post g l.test (frames_before l.self l.node + k) false
