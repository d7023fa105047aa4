-- A row of the part is a row of the list.
use Rattle.std.proofs.Common.{◌-◌, ◌+◌, ap, ◌∙◌, arith, get_or}
use Rattle.numa_rows.proofs.rows.Rows.row_in.Goals as goal

pub returns : goal.returns
returns g c d =
    c.row.ensures d
    ∙ (c.requires.part.each (c.args.rank - c.args.part.now.start) d
    (omega (arith, c.requires.has.from, c.requires.has.to))
    ∙ ap (λ n. get_or c.args.self.now n d)
    {x = c.args.part.now.start + (c.args.rank - c.args.part.now.start)} {y = c.args.rank}
    (omega (arith, c.requires.has.from)))
