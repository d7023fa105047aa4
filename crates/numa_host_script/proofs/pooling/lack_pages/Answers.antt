use Rattle.numa_host_script.proofs.Bindings.{nobody-replies}
use Rattle.numa_host_script.proofs.Fitted.{lacks-early, lacks-late, lacks-starved}
use Rattle.numa_host_script.proofs.Unmapped.{answered}
use Rattle.numa_host_script.proofs.pooling.lack_pages.Goals as goal

pub returns-in_default : goal.returns-in_default
returns-in_default c =
    nobody-replies c.args.running.now _ c.obey_in.result c.args.process _ c.in_default.ensures

pub returns-in_default-is_late_in : goal.returns-in_default-is_late_in
returns-in_default-is_late_in c =
    rw c.pages_reply.ensures
    (lacks-starved c.args.running.now c.args.process c.args.pages c.args.command.now)

pub returns-then-not-late : goal.returns-then-not-late
returns-then-not-late c =
    lacks-early c.args.running.now c.args.process c.args.pages c.args.command.now
    c.in-Some.space.now c.in-Some.ensures c.in-Ok.late c.in-Ok.ensures _
    c.obey_in-then-not-late.result c.if-not-late.true
    (answered c.args.running.now c.obey_in-then-not-late.new.host c.args.process
    c.args.command.now c.obey_in-then-not-late.result c.obey_in-then-not-late.ensures)

pub returns : goal.returns
returns c =
    lacks-late c.args.running.now c.args.process c.args.pages c.args.command.now
    c.in-Some.space.now c.in-Some.ensures c.in-Ok.late c.in-Ok.ensures c.if-not-late.false
    c.refuse.new.self c.refuse.ensures
