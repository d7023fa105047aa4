use Rattle.numa_host_script.proofs.Applied.{forgets-lack}
use Rattle.numa_host_script.proofs.Unmapped.{forgets-nothing, forgets-there}
use Rattle.numa_host_script.proofs.paging.without_span.Goals as goal

pub returns-in-Some-clause-forgets : goal.returns-in-Some-clause-forgets
returns-in-Some-clause-forgets c = λ at lies.
    let had = c.in-Some.ensures at lies in
    forgets-there c.args.process c.args.start c.args.length at c.in-Some.state.now had.0 had.1
    had.2 c.without_span.result c.without_span.ensures

pub returns-in-Some-clause-lack : goal.returns-in-Some-clause-lack
returns-in-Some-clause-lack c =
    forgets-lack c.in-Some.state.now c.args.start c.args.length c.without_span.result
    c.without_span.ensures

pub returns-in-None-clause-forgets : goal.returns-in-None-clause-forgets
returns-in-None-clause-forgets c = λ at lies.
    forgets-nothing c.args.process c.args.start c.args.length at (c.in-None.ensures at lies)
