use Rattle.std.proofs.Common.{subst, sym}
use Rattle.numa_page_state.specs.Standing.{Lies}
use Rattle.numa_page_state.proofs.Begun.{kept-lies}
use Rattle.numa_page_state.proofs.sending.sent_from.Goals as goal

pub returns-then-begins_starved-clause-lies : goal.returns-then-begins_starved-clause-lies
returns-then-begins_starved-clause-lies c = λ lying lies.
    let lacks = c.begins_starved.ensures.starved c.if-begins_starved.true in
    subst (λ b. Lies b lying) (sym lacks.0) lies

pub returns-clause-lies : goal.returns-clause-lies
returns-clause-lies c =
    kept-lies c.args.state.now c.begins_starved.new.state c.in-Some.kept c.in-Some.is
    (c.begins_starved.ensures.kept c.if-begins_starved.false)

pub returns-clause-sends : goal.returns-clause-sends
returns-clause-sends c = λ history lying stands lies.
    c.sent.ensures history lying stands
    (kept-lies c.args.state.now c.begins_starved.new.state c.in-Some.kept c.in-Some.is
    (c.begins_starved.ensures.kept c.if-begins_starved.false) lying lies)
