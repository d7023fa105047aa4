-- The list is that of the chunks.
use Rattle.std.proofs.Common.{length, ap, ◌∙◌, arith}
use Rattle.std.specs.List.{splice}
use Rattle.numa_rows.proofs.rows.Rows.splice_near.Goals as goal

pub edit-edited-requires-clause-within : goal.edit-edited-requires-clause-within
edit-edited-requires-clause-within g c =
    omega (arith, c.requires.within, ap length c.self.view_is, c.self.invariant.count)

pub edit-edited-requires-clause-few : goal.edit-edited-requires-clause-few
edit-edited-requires-clause-few g c = omega arith

pub returns-clause-ok : goal.returns-clause-ok
returns-clause-ok g c = c.in_default.ensures.ok.0
    ∙ ap (λ l. splice l c.args.from c.args.to c.args.rows.now) c.self.view_is

pub edit-edited-requires-clause-table : goal.edit-edited-requires-clause-table
edit-edited-requires-clause-table g c = c.self.invariant

pub edit-edited-requires-clause-rises : goal.edit-edited-requires-clause-rises
edit-edited-requires-clause-rises g c = c.requires.rises

pub returns-clause-unchanged : goal.returns-clause-unchanged
returns-clause-unchanged g c = tt

pub returns-then-rows-kept-clause-ok : goal.returns-then-rows-kept-clause-ok
returns-then-rows-kept-clause-ok g c = tt
