use Rattle.std.proofs.Common.{◌∙◌, ℕ, List, ◌++◌, ap, append-nil, reverse, sym}
use Rattle.std.proofs.lemmas.Bool.{eq-eqb, ne_eqb}
use Rattle.std.proofs.lemmas.Result.{on_ok_weaker}
use Rattle.numa_host_pages.specs.TopDown.{below_in, those_of, told_in}
use Rattle.numa_host_pages.proofs.Ordered.{below-none, three-told}
use Rattle.numa_host_pages.proofs.Walked.{below-here, below-passed}
use Rattle.numa_host_pages.proofs.order.+add_below.Goals as goal

pub returns-in_default : goal.returns-in_default
returns-in_default t c = λ homes are.
    sym (append-nil c.args.told.now.items)
    ∙ ap (λ (l : List ℕ). c.args.told.now.items ++ l)
    (sym (below-none c.args.groups.now c.args.name homes c.in_default.ensures.cases))

pub returns-then-group-name : goal.returns-then-group-name
returns-then-group-name t c = λ homes are.
    rw (below-passed c.args.groups.now c.in-Some.newer.now c.in-Some.group.now c.args.name
    c.in-Some.ensures.cases.0
    (ne_eqb c.in-Some.group.now.parent c.args.name c.if-group-name.true))
    (c.add_below.ensures homes are)

pub returns : goal.returns
returns t c = λ homes are.
    let group = c.in-Some.group.now in
    let newer = reverse c.in-Some.newer.now in
    let here = below-here c.args.groups.now c.in-Some.newer.now group c.args.name
    c.in-Some.ensures.cases.0 (eq-eqb group.parent c.args.name c.if-group-name.false) in
    on_ok_weaker c.add_below-3.result (λ now.
    three-told c.args.told.now.items c.add_group.new.told.items c.add_below-2.new.told.items
    c.add_below-3.new.told.items (those_of group.name homes) (below_in newer group.name)
    (below_in newer c.args.name) homes (c.in_ok-add_group.ensures homes are)
    (c.in_ok-add_below.ensures homes are) now
    ∙ ap (λ (names : List ℕ). c.args.told.now.items ++ told_in names homes) (sym here))
    (c.add_below-3.ensures homes are)
