use Rattle.numa_host_script.proofs.Acted.{changed-nobody, changed-there}
use Rattle.numa_host_script.proofs.both.change_small.Goals as goal

pub returns-in_default-clause-runs : goal.returns-in_default-clause-runs
returns-in_default-clause-runs c = changed-nobody c.args.running.now c.args.process c.args.line.now
    c.in_default.ensures

pub returns-clause-runs : goal.returns-clause-runs
returns-clause-runs c =
    changed-there c.args.running.now c.in-Some.space.now c.change_pages-told.new.pages
    c.take_along.new.pages c.change_pages-told.result c.args.process c.args.line.now
    c.in-Some.ensures c.change_pages-told.ensures c.take_along.ensures
