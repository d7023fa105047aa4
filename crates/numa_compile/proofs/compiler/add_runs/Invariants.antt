use Rattle.numa_ranges.specs.Numbered.{AreNumbered, runs_of}
use Rattle.std.proofs.Common.{◌≡◌, length, slice_get}
use Rattle.numa_compile.specs.Copies.{AreKnown}
use Rattle.numa_compile.specs.Recompiling.{Rises}
use Rattle.numa_compile.proofs.CompileSteps.{HasAdded}
use Rattle.numa_compile.proofs.compiler.add_runs.Given as goal

abbrev pub invariant-loop-row : goal.invariant-loop-row
invariant-loop-row l = record {
  added : HasAdded l.space (runs_of l.values l.row-iterator) l.plan l.waiting.items l.records.keys;
  numbered : AreNumbered l.values l.row-iterator;
  size : length l.known.items ≡ length l.values;
  known : AreKnown (slice_get l.records.keys) l.values l.known.items;
  rises : Rises l.initial.steps l.steps;
}
