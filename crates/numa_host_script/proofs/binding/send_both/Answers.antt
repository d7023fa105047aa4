use Rattle.std.proofs.Common.{Ok, ap, subst, ◌∙◌}
use Rattle.std.specs.Prelude.{IfOk, IfSome}
use Rattle.numa_host_huge.specs.Standing.{CanBe}
use Rattle.numa_host_script.proofs.MovingBoth.{finds-both, finds-none, finds-starved, nobody-finds}
use Rattle.numa_host_script.proofs.binding.send_both.Goals as goal

pub settle_both-requires : goal.settle_both-requires
settle_both-requires c =
    subst (λ r. IfOk r (λ done. IfSome done (λ done.
    CanBe c.args.process c.sent.new.self done.0)))
    (c.in-Ok-Some.is ∙ ap Ok c.in-Ok-Some.field-0-is) c.sent.ensures.can

pub returns-in_default : goal.returns-in_default
returns-in_default c =
    nobody-finds c.args.host.now c.args.host.now c.args.huge.now c.args.huge.now
    c.args.state.now c.args.state.now c.pages_reply.result c.args.process c.args.said.now
    c.args.words.now c.args.sent c.in_default.ensures

pub returns-in-Ok-Some : goal.returns-in-Ok-Some
returns-in-Ok-Some c =
    finds-both c.args.host.now c.args.huge.now c.sent.new.self c.args.state.now c.args.process
    c.args.said.now c.args.words.now c.args.sent c.in-Some.space.now c.in-Some.ensures
    c.sent.ensures.same c.requires c.toucher_of.result c.toucher_of.ensures c.sent.result
    c.sent.ensures.sent c.settle_both.result c.settle_both.new.host c.settle_both.new.huge
    c.settle_both.new.state c.in-Ok-Some.done.0 c.in-Ok-Some.done.1
    (c.in-Ok-Some.is ∙ ap Ok c.in-Ok-Some.field-0-is) c.settle_both.ensures

pub returns-in-Ok-None : goal.returns-in-Ok-None
returns-in-Ok-None c =
    finds-none c.args.host.now c.args.huge.now c.sent.new.self c.args.state.now c.args.process
    c.args.said.now c.args.words.now c.args.sent c.in-Some.space.now c.in-Some.ensures
    c.sent.ensures.same c.requires c.toucher_of.result c.toucher_of.ensures c.sent.result
    c.sent.ensures.sent c.pages_reply-in-Ok-None.result c.args.host.now c.sent.new.self
    c.args.state.now (c.in-Ok-None.is ∙ ap Ok c.in-Ok-None.field-0-is)

pub returns-in-Err : goal.returns-in-Err
returns-in-Err c =
    rw c.pages_reply-in-Err.ensures
    (finds-starved c.args.host.now c.args.huge.now c.sent.new.self c.args.state.now
    c.args.process c.args.said.now c.args.words.now c.args.sent c.in-Some.space.now
    c.in-Some.ensures c.sent.ensures.same)
