use Rattle.std.proofs.Common.{arith}
use Rattle.std.proofs.lemmas.Bool.{eq-eqb, ne_eqb}
use Rattle.numa_huge.proofs.Flowing.{told-one}
use Rattle.numa_huge.proofs.last.one_moved.Goals as goal

pub returns-then-from-to : goal.returns-then-from-to
returns-then-from-to c = rw (eq-eqb c.args.from c.args.to c.if-from-to.true) c.still-told.ensures

pub returns : goal.returns
returns c = told-one c.still-told.result c.args.from c.args.to (omega arith) (omega arith)
    (ne_eqb c.args.from c.args.to c.if-from-to.false) c.still-told.ensures
