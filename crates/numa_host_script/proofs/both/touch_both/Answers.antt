use Rattle.std.proofs.Common.{Err, []}
use Rattle.numa_page_state.specs.Lying.{ground_in}
use Rattle.numa_requests.specs.declared.page_refusal.PlacedRefusal.TheVariants.{NoMemory}
use Rattle.numa_host_script.proofs.BothTouched.{touched-done, touched-none, touched-refused}
use Rattle.numa_host_script.proofs.BothTouched.{touched-starved}
use Rattle.numa_host_script.proofs.both.touch_both.Goals as goal

pub settle_touched-requires : goal.settle_touched-requires
settle_touched-requires c = c.in-Ok.ensures.can

pub returns-in-Err : goal.returns-in-Err
returns-in-Err c =
    touched-starved c.args.huge.now c.populated.new.self c.args.state.now c.args.process
    (ground_in c.args.space.now []) c.args.said.now.start c.args.said.now.length
    c.args.said.now.task c.args.said.now.cpu c.requires c.in-Err.ensures.same

pub returns-in_default : goal.returns-in_default
returns-in_default c =
    touched-none c.args.huge.now c.populated.new.self c.args.state.now c.args.process
    (ground_in c.args.space.now []) c.args.said.now.start c.args.said.now.length
    c.args.said.now.task c.args.said.now.cpu c.requires c.in-Ok.ensures.same (Err NoMemory)
    c.populated.new.self c.args.state.now c.in_default.ensures.home

pub returns-in-Ok-populate_beside : goal.returns-in-Ok-populate_beside
returns-in-Ok-populate_beside c =
    touched-done c.args.huge.now c.populated.new.self c.args.state.now c.args.process
    (ground_in c.args.space.now []) c.args.said.now.start c.args.said.now.length
    c.args.said.now.task c.args.said.now.cpu c.requires c.in-Ok.ensures.same
    c.in-Some.kept.now c.in-Some.ensures.home c.in-Ok.touched.0 c.in-Ok.touched.1
    c.settle_touched.new.self c.populate_beside.new.self
    (rw c.new-resident.ensures at c.in-Ok-populate_beside.ensures.does)
    c.in-Ok.ensures.touched c.settle_touched.ensures

pub returns : goal.returns
returns c =
    touched-refused c.args.huge.now c.populated.new.self c.args.state.now c.args.process
    (ground_in c.args.space.now []) c.args.said.now.start c.args.said.now.length
    c.args.said.now.task c.args.said.now.cpu c.requires c.in-Ok.ensures.same
    c.in-Some.kept.now c.in-Some.ensures.home c.in-Err-populate_beside.why
    c.populate_beside.new.self
    (rw c.new-resident.ensures at c.in-Err-populate_beside.ensures.does)
