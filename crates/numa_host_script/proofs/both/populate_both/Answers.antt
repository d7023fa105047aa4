use Rattle.std.proofs.Common.{Err, Ok}
use Rattle.numa_script.specs.declared.page_line.PageLine.TheVariants as page
use Rattle.numa_host_script.proofs.BothActed.{page-nobody}
use Rattle.numa_host_script.proofs.BothPopulated.{both-populates}
use Rattle.numa_host_script.proofs.both.populate_both.Goals as goal

pub returns-in_default-clause-runs : goal.returns-in_default-clause-runs
returns-in_default-clause-runs c = page-nobody c.args.running.now c.args.process
    (page.Populate c.args.said.now.start c.args.said.now.length c.args.said.now.task
    c.args.said.now.cpu) c.in_default.ensures

pub returns-in-Ok-clause-runs : goal.returns-in-Ok-clause-runs
returns-in-Ok-clause-runs c =
    both-populates c.args.running.now c.args.process c.args.said.now.start
    c.args.said.now.length c.args.said.now.task c.args.said.now.cpu c.in-Some.space.now
    c.in-Some.ensures c.requires c.populate_pages.new.pages c.populate_pages.result
    c.populate_pages.ensures (Ok tt) c.in-Ok.is

pub returns-in-Err-clause-runs : goal.returns-in-Err-clause-runs
returns-in-Err-clause-runs c =
    both-populates c.args.running.now c.args.process c.args.said.now.start
    c.args.said.now.length c.args.said.now.task c.args.said.now.cpu c.in-Some.space.now
    c.in-Some.ensures c.requires c.populate_pages.new.pages c.populate_pages.result
    c.populate_pages.ensures (Err c.in-Err.why) c.in-Err.is
