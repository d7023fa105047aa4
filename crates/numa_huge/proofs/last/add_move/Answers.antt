use Rattle.std.proofs.Common.{arith}
use Rattle.std.proofs.lemmas.Bool.{eq-eqb}
use Rattle.numa_huge.proofs.Flowing.{row-more}
use Rattle.numa_huge.proofs.last.add_move.Goals as goal

pub overflow_add-flow : goal.overflow_add-flow
overflow_add-flow c = omega (arith, c.requires c.args.gone.now.to (omega arith))

pub returns-then-gone-from : goal.returns-then-gone-from
returns-then-gone-from c to small =
    row-more c.args.flow.now c.args.gone.now c.args.from to (omega arith)
    (eq-eqb c.args.gone.now.from c.args.from c.if-gone-from.true)
