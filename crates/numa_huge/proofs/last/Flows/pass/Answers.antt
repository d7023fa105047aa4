use Rattle.std.proofs.Common.{refl}
use Rattle.std.proofs.lemmas.Bool.{eq-eqb, ne_eqb}
use Rattle.numa_huge.proofs.Flowing.{told-push}
use Rattle.numa_huge.proofs.last.Flows.pass.Goals as goal

pub returns-then-from-to-clause-told : goal.returns-then-from-to-clause-told
returns-then-from-to-clause-told c told has =
    rw (eq-eqb c.args.from c.args.to c.if-from-to.true) has

pub returns-in-Ok-clause-told : goal.returns-in-Ok-clause-told
returns-in-Ok-clause-told c told has =
    told-push c.args.self.now (record { moves = c.push.new.self; left = c.args.self.now.left })
    c.args.from c.args.to told
    (ne_eqb c.args.from c.args.to c.if-from-to.false) c.in-Ok.ensures.items refl has
