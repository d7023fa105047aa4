-- The cut is in the part.
use Rattle.std.proofs.Common.{◌-◌, ◌≤◌, ◌^◌}
use Rattle.numa_placed.specs.Cuts.{IsPart}
use Rattle.numa_placed.specs.Turns.{spots_of}
use Rattle.numa_placed.proofs.cut.halved_cut.Given as goal

abbrev pub invariant-loop-part : goal.invariant-loop-part
invariant-loop-part l = record {
  part : IsPart (spots_of l.places) l.node l.first l.end l.pages l.part;
  within : l.part.high ≤ 2 ^ 35;
}

abbrev pub decreases-loop-part : goal.decreases-loop-part
decreases-loop-part l = l.part.high - l.part.low
