use Rattle.std.proofs.Common.{◌-◌}
use Rattle.numaplan_handles.proofs.Halves.{IsNarrowed}
use Rattle.numaplan_handles.proofs.search.place_of.Given as goal

abbrev pub invariant-loop-low : goal.invariant-loop-low
invariant-loop-low l = IsNarrowed l.space.ranges l.page l.low l.high

abbrev pub decreases-loop-low : goal.decreases-loop-low
decreases-loop-low l = l.high - l.low
