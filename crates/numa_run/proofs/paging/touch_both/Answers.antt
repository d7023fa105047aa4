use Rattle.numa_page_state.specs.Lying.{ground_in}
use Rattle.numa_run.proofs.Touched.{touched-done, touched-refused, touched-starved}
use Rattle.numa_run.proofs.paging.touch_both.Goals as goal

pub returns-in-Err : goal.returns-in-Err
returns-in-Err c =
    touched-starved c.args.pages.now c.args.pages.now c.args.huge.now
    (ground_in c.args.space.now c.args.resident.now) c.args.said.now.start c.args.said.now.length
    c.args.said.now.task c.args.said.now.cpu

pub returns-in-Ok-populate_beside : goal.returns-in-Ok-populate_beside
returns-in-Ok-populate_beside c =
    touched-done c.args.pages.now c.populate_beside.new.self c.args.huge.now
    (ground_in c.args.space.now c.args.resident.now) c.args.said.now.start c.args.said.now.length
    c.args.said.now.task c.args.said.now.cpu c.in-Ok.touched.0 c.in-Ok.touched.1 c.settle.new.self
    c.in-Ok-populate_beside.ensures.does c.in-Ok.ensures.touched c.settle.ensures

pub returns-in-Err-populate_beside : goal.returns-in-Err-populate_beside
returns-in-Err-populate_beside c =
    touched-refused c.args.pages.now c.populate_beside.new.self c.args.huge.now
    (ground_in c.args.space.now c.args.resident.now) c.args.said.now.start c.args.said.now.length
    c.args.said.now.task c.args.said.now.cpu c.in-Err-populate_beside.why
    c.in-Err-populate_beside.ensures.does
