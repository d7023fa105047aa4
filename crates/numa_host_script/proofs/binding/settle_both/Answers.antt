use Rattle.numa_host_script.proofs.MovingBoth.{settles-done, settles-starved}
use Rattle.numa_host_script.proofs.binding.settle_both.Goals as goal

pub returns-in_default : goal.returns-in_default
returns-in_default c =
    rw c.pages_reply.ensures
    (settles-starved c.args.host.now c.args.huge.now c.args.state.now c.args.process
    c.args.said.now c.args.words.now c.args.sent c.args.places c.args.flows c.apply.new.self
    c.in_default.field-0 c.in_default.ensures)

pub returns : goal.returns
returns c =
    settles-done c.args.host.now c.args.huge.now c.args.state.now c.args.process
    c.args.said.now c.args.words.now c.args.sent c.args.places c.args.flows c.apply.new.self
    c.version.result c.saturating_add-moved.result c.saturating_add-left.result
    c.settle.new.state c.settle_sent.new.self c.tells_left-late.result c.in-Ok.ensures
    c.version.ensures.meaning c.settle.ensures c.settle_sent.ensures
    (rw c.moved.ensures at c.saturating_add-moved.ensures) c.saturating_add-left.ensures
    c.tells_left-late.ensures
