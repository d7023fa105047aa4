use Rattle.std.proofs.Common.{sym, subst}
use Rattle.numa_plan.specs.Rows.{Kept, HasRows}
use Rattle.tests_of_refusals.proofs.tests.edits.take_all_out.Goals as goal

pub write_rule-requires-clause-rows : goal.write_rule-requires-clause-rows
write_rule-requires-clause-rows g c =
    subst (λ (kept : Kept). HasRows c.args.plan.now.nodes kept.rule) (sym c.in-Ok-new.ensures)
    (c.in-Ok.ensures c.args.plan.now.nodes)
