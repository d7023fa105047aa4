use Rattle.std.proofs.lemmas.Bool.{eq-eqb, ne_eqb}
use Rattle.numa_host_pages.proofs.Walked.{group-joined, group-none, group-passed}
use Rattle.numa_host_pages.proofs.following.+follow_group.Goals as goal

pub returns-in_default : goal.returns-in_default
returns-in_default t c = λ homes room are have.
    group-none c.args.members.now c.args.rooms.now c.args.follows c.args.group c.args.nodes.now
    homes room c.in_default.ensures.cases are have

pub returns-then-first-group : goal.returns-then-first-group
returns-then-first-group t c = λ homes room are have.
    group-passed c.in-Some.first.now c.in-Some.rest.now c.follow_group.new.members
    c.follow_group.new.rooms c.args.follows c.args.group c.args.nodes.now homes room
    (rw (← c.in-Some.ensures.cases.0) are)
    (ne_eqb c.in-Some.first.now.group c.args.group c.if-first-group.true)
    (λ others there. c.follow_group.ensures others room there have)

pub returns : goal.returns
returns t c = λ homes room are have.
    group-joined c.in-Some.first.now c.follow_home.new.member c.in-Some.rest.now
    c.follow_group-2.new.members c.args.rooms.now c.follow_home.new.rooms
    c.follow_group-2.new.rooms c.args.follows c.args.group c.args.nodes.now homes room
    (rw (← c.in-Some.ensures.cases.0) are) have
    (eq-eqb c.in-Some.first.now.group c.args.group c.if-first-group.false) c.follow_home.ensures
    c.follow_group-2.ensures
