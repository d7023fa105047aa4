-- The runs counted so far, and those of the runs that are left, are those of all runs.
use Rattle.std.proofs.Common.{◌≡◌, ◌+◌}
use Rattle.numa_placed.specs.Stored.{begins}
use Rattle.numa_placed.specs.Turns.{spots_of}
use Rattle.numa_placed.proofs.Begun.{begun}
use Rattle.numa_placed.proofs.edit.counted_runs.Given as goal

abbrev pub invariant-loop-run : goal.invariant-loop-run
invariant-loop-run l = l.count + begun (begins (spots_of l.places)) l.run-iterator
    ≡ begun (begins (spots_of l.places)) l.places.map.runs
