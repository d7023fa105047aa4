-- With no rows there are no chunks; otherwise one chunk stays, or those around are a window.
use Rattle.std.proofs.Common.{sym, ◌∙◌, arith}
use Rattle.std.proofs.lemmas.Bool.{false≢true}
use Rattle.numa_rows.proofs.Editing.{window-none}
use Rattle.numa_rows.proofs.window.changed.Goals as goal

pub place_of-first-requires-clause-rank : goal.place_of-first-requires-clause-rank
place_of-first-requires-clause-rank g c = omega (arith, c.if-len-eq0.false)

pub within_one-requires-clause-from : goal.within_one-requires-clause-from
within_one-requires-clause-from g c = omega arith

pub within_one-requires-clause-count : goal.within_one-requires-clause-count
within_one-requires-clause-count g c = c.requires.table.count

pub within_one-requires-clause-small : goal.within_one-requires-clause-small
within_one-requires-clause-small g c = c.requires.table.small

pub around-requires-clause-rank : goal.around-requires-clause-rank
around-requires-clause-rank g c = omega (arith, c.if-len-eq0.false)

pub around-requires-clause-from : goal.around-requires-clause-from
around-requires-clause-from g c = omega arith

pub returns-then-len-eq0-clause-window : goal.returns-then-len-eq0-clause-window
returns-then-len-eq0-clause-window g c anew = window-none 6144 c.args.chunks.now c.args.from
    c.args.to c.args.added c.requires.table.filled
    (omega (arith, c.requires.table.count, c.if-len-eq0.true)) c.requires.rises
    (omega (arith, c.requires.within, c.if-len-eq0.true))

pub within_one-requires-clause-has : goal.within_one-requires-clause-has
within_one-requires-clause-has g c = c.place_of-first.ensures

pub around-requires-clause-has : goal.around-requires-clause-has
around-requires-clause-has g c = c.place_of-first.ensures

pub returns-then-len-eq0-clause-stays : goal.returns-then-len-eq0-clause-stays
returns-then-len-eq0-clause-stays g c odd = absurd (false≢true odd)

pub returns-clause-stays : goal.returns-clause-stays
returns-clause-stays g c odd = absurd (false≢true (sym c.around.ensures.anew ∙ odd))

pub returns-clause-window : goal.returns-clause-window
returns-clause-window g c anew = c.around.ensures.window

pub returns-clause-start : goal.returns-clause-start
returns-clause-start g c anew = c.around.ensures.start

pub returns-in-Some-clause-stays : goal.returns-in-Some-clause-stays
returns-in-Some-clause-stays g c = c.in-Some.ensures.stays

pub returns-in-Some-clause-window : goal.returns-in-Some-clause-window
returns-in-Some-clause-window g c = c.in-Some.ensures.window

pub returns-in-Some-clause-start : goal.returns-in-Some-clause-start
returns-in-Some-clause-start g c = c.in-Some.ensures.start
