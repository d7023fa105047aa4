use Rattle.std.proofs.Common.{◌∙◌, sym}
use Rattle.numa_host_script.proofs.both.take_along.Goals as goal

pub returns-then-not-tells_move : goal.returns-then-not-tells_move
returns-then-not-tells_move c = λ at lies.
    rw (sym c.tells_move.ensures ∙ c.if-not-tells_move.true) lies

pub returns : goal.returns
returns c = λ at lies.
    rw (sym c.tells_move.ensures ∙ c.if-not-tells_move.false) (c.take_along.ensures at lies)
