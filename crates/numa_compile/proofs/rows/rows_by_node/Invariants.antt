use Rattle.std.proofs.Common.{◌≡◌}
use Rattle.std.specs.List.{range_with_len}
use Rattle.numa_space.specs.Standing.{setting_in}
use Rattle.numa_compile.specs.Rules.{rows_from}
use Rattle.numa_compile.proofs.rows.rows_by_node.Given as goal

abbrev pub invariant-loop-from : goal.invariant-loop-from
invariant-loop-from l = l.rows.items ≡ rows_from (setting_in l.space) l.reach
    (range_with_len 0 l.from)
