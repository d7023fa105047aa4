use Rattle.std.proofs.Common.{◌≡◌, ◌++◌, drop}
use Rattle.numa_reports.specs.Differences.{HasNone, moves_over}
use Rattle.numa_reports.specs.Moved.{planned_moves}
use Rattle.numa_reports.specs.declared.outlook.PageSpan.{PageSpan}
use Rattle.numa_reports.proofs.differences.moves_of.Given as goal

abbrev pub invariant-loop-span : goal.invariant-loop-span
invariant-loop-span l = record {
  moves : l.moves.items ++ moves_over (λ (span : PageSpan). planned_moves l.change.before.now
      l.change.after.now l.change.touch.task span.first span.pages l.change.touch.cpu) l.nodes.0
      l.nodes.1 (drop l.span-index l.spans)
      ≡ moves_over (λ (span : PageSpan). planned_moves l.change.before.now l.change.after.now
      l.change.touch.task span.first span.pages l.change.touch.cpu)
      l.nodes.0 l.nodes.1 l.spans;
  none : HasNone l.table.items;
}
