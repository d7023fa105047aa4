use Rattle.std.proofs.Common.{Ok, Err, None, Some, ap, sym, ◌∙◌}
use Rattle.numa_host_huge.specs.Sharing.{memory_in}
use Rattle.numa_host_script.proofs.Moving.{finds-that, found-sends, nobody-sends, send-denied}
use Rattle.numa_host_script.proofs.Moving.{send-done, send-refused, send-starved}
use Rattle.numa_host_script.proofs.Shared.{gone}
use Rattle.numa_host_script.proofs.binding.send_with.Goals as goal

pub returns-in_default : goal.returns-in_default
returns-in_default c =
    nobody-sends c.args.host.now c.obey_in.new.host c.args.huge.now c.args.huge.now c.args.state.now
    c.args.state.now
    c.obey_in.result c.args.process c.args.said.now c.args.words.now c.in_default.ensures

pub returns-in-Ok-None : goal.returns-in-Ok-None
returns-in-Ok-None c =
    send-refused c.args.host.now c.args.huge.now c.args.state.now c.args.process c.args.said.now
    c.args.words.now c.in-Some.space.now c.in-Some.ensures c.obey_in-in-Ok-None.new.host
    c.obey_in-in-Ok-None.result
    (finds-that c.args.host.now c.args.huge.now c.args.state.now c.args.process c.args.said.now
    c.args.words.now c.in-Some.space.now c.in-Some.ensures c.sent.result (Ok None)
    (c.in-Ok-None.is ∙ ap Ok c.in-Ok-None.field-0-is)
    (rw (c.new-resident.ensures, c.toucher_of.ensures) at c.sent.ensures))
    c.obey_in-in-Ok-None.ensures

pub returns-in-Err : goal.returns-in-Err
returns-in-Err c =
    rw c.pages_reply.ensures
    (send-denied c.args.host.now c.args.huge.now c.args.state.now c.args.process c.args.said.now
    c.args.words.now c.in-Some.space.now c.in-Some.ensures c.in-Err.refusal
    (finds-that c.args.host.now c.args.huge.now c.args.state.now c.args.process c.args.said.now
    c.args.words.now c.in-Some.space.now c.in-Some.ensures c.sent.result (Err c.in-Err.refusal)
    c.in-Err.is (rw (c.new-resident.ensures, c.toucher_of.ensures) at c.sent.ensures)))

pub send_both-requires : goal.send_both-requires
send_both-requires c = sym c.is_sharer.ensures.kept ∙ c.if-is_sharer.true

pub returns-then-is_sharer : goal.returns-then-is_sharer
returns-then-is_sharer c =
    found-sends c.args.host.now c.args.huge.now c.args.state.now c.args.process c.args.said.now
    c.args.words.now c.in-Some.space.now c.in-Some.ensures c.send_both.result
    c.send_both.new.host c.send_both.new.huge c.send_both.new.state c.in-Ok-Some.sent
    (finds-that c.args.host.now c.args.huge.now c.args.state.now c.args.process c.args.said.now
    c.args.words.now c.in-Some.space.now c.in-Some.ensures c.sent.result
    (Ok (Some c.in-Ok-Some.sent)) (c.in-Ok-Some.is ∙ ap Ok c.in-Ok-Some.field-0-is)
    (rw (c.new-resident.ensures, c.toucher_of.ensures) at c.sent.ensures)) c.send_both.ensures

pub returns-in_default-apply : goal.returns-in_default-apply
returns-in_default-apply c =
    rw c.pages_reply-in_default-apply.ensures
    (send-starved c.args.host.now c.args.huge.now c.args.state.now c.args.process c.args.said.now
    c.args.words.now c.in-Some.space.now c.in-Some.ensures c.apply.new.self
    c.in_default-apply.field-0 c.in_default-apply.ensures)

pub returns : goal.returns
returns c =
    send-done c.args.host.now c.args.huge.now c.args.state.now c.args.process c.args.said.now
    c.args.words.now c.in-Some.space.now c.in-Some.ensures c.apply.new.self c.version.result
    c.in-Ok-Some.sent c.settle.new.state c.tells_left-late.result c.in-Ok.ensures
    c.version.ensures.meaning
    (finds-that c.args.host.now c.args.huge.now c.args.state.now c.args.process c.args.said.now
    c.args.words.now c.in-Some.space.now c.in-Some.ensures c.sent.result
    (Ok (Some c.in-Ok-Some.sent)) (c.in-Ok-Some.is ∙ ap Ok c.in-Ok-Some.field-0-is)
    (rw (c.new-resident.ensures, c.toucher_of.ensures) at c.sent.ensures))
    c.settle.ensures c.tells_left-late.ensures
    (λ at lies. gone (memory_in c.args.process at)
    (sym (c.is_sharer.ensures.sharer at lies) ∙ c.if-is_sharer.false))
