use Rattle.std.proofs.Common.{◌≡◌, ◌++◌}
use Rattle.numa_reports.specs.Differences.{moves_from}
use Rattle.numa_reports.specs.Moved.{moves_in}
use Rattle.numa_reports.proofs.differences.push_from.Given as goal

abbrev pub invariant-loop-node : goal.invariant-loop-node
invariant-loop-node l = l.moves.items ≡ l.fn.moves.items
    ++ moves_from (moves_in l.table) l.fn.span l.from l.node
