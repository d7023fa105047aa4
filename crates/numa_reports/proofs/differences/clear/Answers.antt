use Rattle.std.proofs.Common.{arith, rules}
use Rattle.std.proofs.lemmas.List.Edits.{fill_by_more}
use Rattle.numa_reports.proofs.differences.clear.Goals as goal

pub loop-place-preserved : goal.loop-place-preserved
loop-place-preserved c = record {
  entries = search rules;
  none = fill_by_more (λ k. 0) c.loop-place.table.items c.loop-place.place 0
      (omega (arith, c.loop-place.invariant.entries)) c.loop-place.invariant.none;
}
