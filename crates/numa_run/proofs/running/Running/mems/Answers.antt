use Rattle.std.proofs.Common.{ap, sym, ◌∙◌}
use Rattle.numa_space.specs.Standing.{SpaceState}
use Rattle.numa_run.proofs.Obeys.{follow-huge, mems-goes, mems-stays}
use Rattle.numa_run.proofs.running.Running.mems.Goals as goal

pub returns-then-is_err : goal.returns-then-is_err
returns-then-is_err c =
    rw c.accept_reply.ensures
    (mems-stays c.args.self.now c.args.mask c.accept-answer.new.self c.accept-answer.ensures.setup
    c.accept-answer.result (sym c.is_err.ensures.value ∙ c.if-is_err.true)
    c.accept-answer.ensures.answer)

pub returns : goal.returns
returns c =
    rw c.accept_reply-2.ensures
    (mems-goes c.args.self.now c.args.mask c.accept-answer.new.self c.accept-answer.ensures.setup
    c.accept-answer.result (sym c.is_err.ensures.value ∙ c.if-is_err.false)
    c.follow_where.new.state c.follow_if.new.huge c.follows_in-follows.result
    c.accept-answer.ensures.answer c.allowed-old.result c.allowed-new.result
    (c.allowed-old.ensures.allowed ∙ ap (λ (s : SpaceState). s.allowed) c.space.ensures.space)
    (c.allowed-new.ensures.allowed ∙ ap (λ (s : SpaceState). s.allowed) c.space-2.ensures.space)
    c.follow_where.ensures
    (follow-huge c.args.self.now c.follows_in-follows.result c.allowed-old.result
    c.allowed-new.result c.follow_if.new.huge c.follows_in-follows.ensures c.follow_if.ensures))
