use Rattle.std.proofs.lemmas.Bool.{eq-eqb, ne_eqb}
use Rattle.numa_host_pages.proofs.Both.{sharers-none, sharers-passed, sharers-told}
use Rattle.numa_host_pages.proofs.following.+follow_sharers.Goals as goal

pub returns-in_default : goal.returns-in_default
returns-in_default t c = λ homes at are lies.
    rw (sharers-none c.args.members.now homes at c.args.follows c.args.group c.args.nodes.now
    c.in_default.ensures.cases are) lies

pub returns-then-first-group : goal.returns-then-first-group
returns-then-first-group t c = λ homes at are lies.
    let so = sharers-passed c.in-Some.first.now c.in-Some.rest.now homes at c.args.follows
    c.args.group c.args.nodes.now (rw (← c.in-Some.ensures.cases.0) are)
    (ne_eqb c.in-Some.first.now.group c.args.group c.if-first-group.true) in
    rw so.2 (c.follow_sharers.ensures so.0 at so.1 lies)

pub returns : goal.returns
returns t c = λ homes at are lies.
    let so = sharers-told c.in-Some.first.now c.in-Some.rest.now homes at c.args.follows
    c.args.group c.args.nodes.now (rw (← c.in-Some.ensures.cases.0) are)
    (eq-eqb c.in-Some.first.now.group c.args.group c.if-first-group.false) in
    rw so.2 (c.follow_sharers-2.ensures so.0 _ so.1 (c.follow_huge.ensures at lies))
