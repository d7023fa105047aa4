use Rattle.std.proofs.Common.{ℕ, List, subst}
use Rattle.numa_host_huge.specs.Standing.{FaultsIn}
use Rattle.numa_page_state.specs.Huge.{huge_page}
use Rattle.numa_script.specs.declared.huge_line.HugeLine.TheVariants as huge
use Rattle.numa_host_script.proofs.Resizes.{huge-nobody}
use Rattle.numa_host_script.proofs.Touches.{fault-huge, fault-refused, fault-small}
use Rattle.numa_host_script.proofs.pooling.fault.Goals as goal

pub returns-in_default : goal.returns-in_default
returns-in_default c =
    huge-nobody c.args.running.now c.args.process (huge.Fault c.args.touch.now.task
    c.args.touch.now.address c.args.touch.now.cpu) c.in_default.ensures

pub returns-in-Err : goal.returns-in-Err
returns-in-Err c =
    rw c.place_cause.ensures
    (fault-refused c.args.running.now c.args.process c.in-Some.space.now c.in-Some.ensures
    c.args.touch.now.task c.args.touch.now.address c.args.touch.now.cpu c.in-Err.why
    c.in-Err.ensures.meaning)

pub returns-then-not-is_huge_at : goal.returns-then-not-is_huge_at
returns-then-not-is_huge_at c =
    fault-small c.args.running.now c.args.process c.in-Some.space.now c.in-Some.ensures
    c.args.touch.now.task c.args.touch.now.address c.args.touch.now.cpu c.in-Ok.list.items
    c.in-Ok.ensures.meaning c.is_huge_at.result c.is_huge_at.ensures.huge
    c.if-not-is_huge_at.true c.fault_small.result c.fault_small.new.pages c.fault_small.ensures

pub returns : goal.returns
returns c =
    rw c.fault_reply.ensures
    (fault-huge c.args.running.now c.args.process c.in-Some.space.now c.in-Some.ensures
    c.args.touch.now.task c.args.touch.now.address c.args.touch.now.cpu c.in-Ok.list.items
    c.in-Ok.ensures.meaning c.is_huge_at.result c.is_huge_at.ensures.huge
    c.if-not-is_huge_at.false c.fault-given.result c.fault-given.new.self
    (subst (λ (nodes : List ℕ). FaultsIn c.args.process c.args.running.now.pages.huge
    c.fault-given.result c.fault-given.new.self (huge_page c.args.touch.now.address) nodes)
    c.deref.ensures.0 c.fault-given.ensures))
