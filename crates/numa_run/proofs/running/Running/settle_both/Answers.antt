use Rattle.std.proofs.Common.{◌<◌, ◌^◌, subst, length}
use Rattle.numa_run.proofs.BothSent.{settle-done, settle-starved}
use Rattle.numa_run.proofs.running.Running.settle_both.Goals as goal

pub returns-in_default-accept : goal.returns-in_default-accept
returns-in_default-accept c = λ state stands found walks.
    rw c.command_reply.ensures
    (settle-starved c.args.self.now c.args.said.now c.args.words.now c.args.sent c.args.places
    c.args.flows c.in-Some.kept c.in-Some.is state stands found walks c.accept.new.self
    c.accept.ensures.setup c.in_default-accept.field-0 c.in_default-accept.ensures.answer)

pub returns : goal.returns
returns c = λ state stands found walks.
    settle-done c.args.self.now c.args.said.now c.args.words.now c.args.sent c.args.places
    c.args.flows c.in-Some.kept c.in-Some.is state stands found walks c.accept.new.self
    c.accept.ensures.setup c.in-Ok.acceptance.version c.saturating_add-moved.result
    c.saturating_add-left.result c.settled.new.state c.settle_huge.new.huge c.tells_left-late.result
    c.in-Ok.ensures.answer
    (λ lying held asked lies has. c.settled.ensures lying held asked lies c.requires.pages has)
    c.settle_huge.ensures
    (subst (λ l. length l < 2 ^ 63) c.iter.ensures.placed c.iter.ensures.few)
    (rw c.moved.ensures at c.saturating_add-moved.ensures) c.saturating_add-left.ensures
    c.tells_left-late.ensures
