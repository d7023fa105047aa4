use Rattle.std.proofs.Common.{◌≡◌, ◌-◌, ◌≤◌, length}
use Rattle.numa_reports.specs.Moved.{AddsMoves, planned_moves}
use Rattle.numa_reports.proofs.moves.add_moves.Given as goal

abbrev pub invariant-loop-page : goal.invariant-loop-page
invariant-loop-page g l = record {
  low : l.first ≤ l.page;
  high : l.page ≤ l.end;
  counted : AddsMoves l.fn.table.items l.table.items
      (planned_moves l.change.before.now l.change.after.now l.change.touch.task l.first
      (l.page - l.first) l.change.touch.cpu);
  entries : length l.table.items ≡ 65536;
}

abbrev pub decreases-loop-page : goal.decreases-loop-page
decreases-loop-page g l = l.end - l.page
