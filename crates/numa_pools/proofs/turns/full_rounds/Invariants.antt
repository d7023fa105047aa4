-- So many rounds are too few, and so many are enough.
use Rattle.std.proofs.Common.{◌-◌}
use Rattle.numa_pools.proofs.Narrowing.{AreAround}
use Rattle.numa_pools.proofs.turns.full_rounds.Given as goal

abbrev pub invariant-loop-high : goal.invariant-loop-high
invariant-loop-high l = AreAround l.times l.room l.low l.high

abbrev pub decreases-loop-high : goal.decreases-loop-high
decreases-loop-high l = l.high - l.low
