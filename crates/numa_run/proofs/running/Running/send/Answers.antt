use Rattle.std.proofs.Common.{Ok, Err, None, Some, sym, ap, ◌∙◌}
use Rattle.numa_run.proofs.Binds.{send-both, send-denied, send-done, send-refused}
use Rattle.numa_run.proofs.Binds.{send-starved, sends-that}
use Rattle.numa_run.proofs.Keeping.{none-of}
use Rattle.numa_run.proofs.running.Running.send.Goals as goal

pub returns-in-Ok-None : goal.returns-in-Ok-None
returns-in-Ok-None c =
    send-refused c.args.self.now c.args.said.now c.args.words.now c.sent_from.new.state
    c.sent_from.ensures.lies c.accept.new.self c.accept.result
    (sends-that c.args.self.now c.args.said.now c.args.words.now c.sent_from.new.state
    c.sent_from.ensures.lies c.sent_from.result (Ok None)
    (c.in-Ok-None.is ∙ ap Ok c.in-Ok-None.field-0-is)
    (rw (c.space-space.ensures.space, c.toucher_of-toucher.ensures) at c.sent_from.ensures.sends))
    c.accept.ensures

pub returns-in-Err : goal.returns-in-Err
returns-in-Err c =
    rw c.command_reply.ensures
    (send-denied c.args.self.now c.args.said.now c.args.words.now c.sent_from.new.state
    c.sent_from.ensures.lies c.in-Err.refusal
    (sends-that c.args.self.now c.args.said.now c.args.words.now c.sent_from.new.state
    c.sent_from.ensures.lies c.sent_from.result (Err c.in-Err.refusal) c.in-Err.is
    (rw (c.space-space.ensures.space, c.toucher_of-toucher.ensures) at c.sent_from.ensures.sends)))

pub returns-then-is_some : goal.returns-then-is_some
returns-then-is_some c =
    send-both c.args.self.now c.args.said.now c.args.words.now c.sent_from.new.state
    c.sent_from.ensures.lies c.send_both.new.self c.send_both.result c.in-Ok-Some.sent
    (sends-that c.args.self.now c.args.said.now c.args.words.now c.sent_from.new.state
    c.sent_from.ensures.lies c.sent_from.result (Ok (Some c.in-Ok-Some.sent))
    (c.in-Ok-Some.is ∙ ap Ok c.in-Ok-Some.field-0-is)
    (rw (c.space-space.ensures.space, c.toucher_of-toucher.ensures) at c.sent_from.ensures.sends))
    c.send_both.ensures

pub returns-in_default : goal.returns-in_default
returns-in_default c =
    rw c.command_reply-in_default.ensures
    (send-starved c.args.self.now c.args.said.now c.args.words.now c.sent_from.new.state
    c.sent_from.ensures.lies c.accept-2.new.self c.accept-2.ensures.setup c.in_default.field-0
    c.in_default.ensures.answer)

pub returns : goal.returns
returns c =
    send-done c.args.self.now c.args.said.now c.args.words.now c.sent_from.new.state
    c.sent_from.ensures.lies c.accept-2.new.self c.accept-2.ensures.setup
    (none-of c.args.self.now.huge (sym c.is_some.ensures ∙ c.if-is_some.false))
    c.in-Ok.acceptance.version c.in-Ok-Some.sent c.settled.new.state c.tells_left-late.result
    c.in-Ok.ensures.answer
    (sends-that c.args.self.now c.args.said.now c.args.words.now c.sent_from.new.state
    c.sent_from.ensures.lies c.sent_from.result (Ok (Some c.in-Ok-Some.sent))
    (c.in-Ok-Some.is ∙ ap Ok c.in-Ok-Some.field-0-is)
    (rw (c.space-space.ensures.space, c.toucher_of-toucher.ensures) at c.sent_from.ensures.sends))
    (λ lying kept asked lies has.
    c.settled.ensures lying kept asked lies c.in-Ok-Some.ensures.some has)
    c.tells_left-late.ensures
