use Rattle.std.proofs.Common.{◌≡◌, ◌+◌, length}
use Rattle.numa_lanes.specs.Spans.{set_count}
use Rattle.numa_lanes.proofs.within.count_in.Given as goal

abbrev pub invariant-loop-rest : goal.invariant-loop-rest
invariant-loop-rest l = l.total + set_count l.set l.rest ≡ set_count l.set l.nodes

abbrev pub decreases-loop-rest : goal.decreases-loop-rest
decreases-loop-rest l = length l.rest
