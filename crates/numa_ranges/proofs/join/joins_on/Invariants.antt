-- The runs that are left follow the last one, and if these are maximal, all are.
use Rattle.std.proofs.Common.{◌∷◌}
use Rattle.std.specs.Prelude.{All}
use Rattle.numa_ranges.specs.Edits.{IsInRange}
use Rattle.numa_ranges.specs.Runs.{AreMaximal}
use Rattle.numa_ranges.proofs.join.joins_on.Given as goal

abbrev pub invariant-loop-run : goal.invariant-loop-run
invariant-loop-run g l = record {
  in_range : All IsInRange (l.last ∷ l.run-iterator);
  maximal : AreMaximal (l.last ∷ l.run-iterator) → AreMaximal (l.fn.first ∷ l.fn.runs);
}
