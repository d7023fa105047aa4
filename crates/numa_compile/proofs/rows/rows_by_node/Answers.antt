use Rattle.std.proofs.Common.{◌++◌, ap, sym, ◌∙◌, List, ℕ}
use Rattle.numa_machine.proofs.Nodes.{flat_map-range_more}
use Rattle.numa_space.specs.Standing.{setting_in}
use Rattle.numa_compile.specs.Rules.{row_from}
use Rattle.numa_compile.proofs.rows.rows_by_node.Goals as goal

pub loop-from-preserved : goal.loop-from-preserved
loop-from-preserved c =
    c.in_ok-push_row.ensures
    ∙ ap (λ (xs : List ℕ). xs ++ row_from (setting_in c.args.space.now) c.args.reach.now
    c.loop-from.from) c.loop-from.invariant
    ∙ sym (flat_map-range_more (row_from (setting_in c.args.space.now) c.args.reach.now)
    c.loop-from.from)
