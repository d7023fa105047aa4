use Rattle.numa_script.specs.declared.page_line.PageLine.TheVariants as page
use Rattle.numa_host_script.proofs.BothActed.{page-nobody}
use Rattle.numa_host_script.proofs.BothMoved.{huge-moves, huge-refused}
use Rattle.numa_host_script.proofs.both.move_huge.Goals as goal

pub returns-in_default-clause-runs : goal.returns-in_default-clause-runs
returns-in_default-clause-runs c = page-nobody c.args.running.now c.args.process
    (page.Move c.args.address c.args.node) c.in_default.ensures

pub returns-in-Ok-clause-runs : goal.returns-in-Ok-clause-runs
returns-in-Ok-clause-runs c =
    huge-moves c.args.running.now c.args.process c.args.address c.args.node c.in-Some.space.now
    c.in-Some.ensures c.requires c.move_page.new.self c.move_page.result c.move_page.ensures
    c.in-Ok.is c.rest.new.self c.take_along.new.self c.rest.ensures c.take_along.ensures

pub returns-in-Err-clause-runs : goal.returns-in-Err-clause-runs
returns-in-Err-clause-runs c =
    huge-refused c.args.running.now c.args.process c.args.address c.args.node c.in-Some.space.now
    c.in-Some.ensures c.requires c.move_page.new.self c.move_page.result c.move_page.ensures
    c.in-Err.why c.in-Err.is
