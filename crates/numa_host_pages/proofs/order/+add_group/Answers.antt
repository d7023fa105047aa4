use Rattle.std.proofs.Common.{◌∙◌, ℕ, List, ◌++◌, ap, sym, append-nil}
use Rattle.std.proofs.lemmas.Bool.{eq-eqb, ne_eqb}
use Rattle.std.proofs.lemmas.Result.{on_ok_weaker}
use Rattle.numa_host_pages.specs.TopDown.{those_of}
use Rattle.numa_host_pages.proofs.Ordered.{one-more, those-joined, those-none, those-passed}
use Rattle.numa_host_pages.proofs.order.+add_group.Goals as goal

pub returns-in_default : goal.returns-in_default
returns-in_default t c = λ homes are.
    sym (append-nil c.args.told.now.items)
    ∙ ap (λ (l : List ℕ). c.args.told.now.items ++ l)
    (sym (those-none c.args.members.now c.args.group homes c.in_default.ensures.cases are))

pub returns-then-first-group : goal.returns-then-first-group
returns-then-first-group t c = λ homes are.
    let so = those-passed c.in-Some.first.now c.in-Some.rest.now c.args.group homes
    (rw (← c.in-Some.ensures.cases.0) are)
    (ne_eqb c.in-Some.first.now.group c.args.group c.if-first-group.true) in
    rw so.2 (c.add_group.ensures so.0 so.1)

pub returns : goal.returns
returns t c = λ homes are.
    let so = those-joined c.in-Some.first.now c.in-Some.rest.now c.args.group homes
    (rw (← c.in-Some.ensures.cases.0) are)
    (eq-eqb c.in-Some.first.now.group c.args.group c.if-first-group.false) in
    on_ok_weaker c.add_group-2.result (λ now.
    one-more c.args.told.now.items c.push.new.self.items c.add_group-2.new.told.items
    (those_of c.args.group so.0) (those_of c.args.group homes) c.in-Some.first.now.id
    c.in_ok-push.ensures.items now so.2) (c.add_group-2.ensures so.0 so.1)
