use Rattle.std.proofs.Common.{◌≡◌, take}
use Rattle.numa_lanes.specs.Spans.{set_count}
use Rattle.numa_lanes.proofs.within.count_pages_in.Given as goal

abbrev pub invariant-loop-entry : goal.invariant-loop-entry
invariant-loop-entry l = l.total ≡ set_count l.set (take l.entry-index l.span)
