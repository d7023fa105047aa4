use Rattle.std.proofs.Common.{◌≡◌, ◌++◌}
use Rattle.numa_reports.specs.Differences.{moves_within}
use Rattle.numa_reports.specs.Moved.{moves_in}
use Rattle.numa_reports.proofs.differences.push_all.Given as goal

abbrev pub invariant-loop-from : goal.invariant-loop-from
invariant-loop-from l = l.moves.items ≡ l.fn.moves.items
    ++ moves_within (moves_in l.table) l.span l.from l.nodes.1
