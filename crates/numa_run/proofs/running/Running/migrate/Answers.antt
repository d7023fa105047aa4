use Rattle.std.proofs.Common.{ap, ◌∙◌}
use Rattle.numa_core.specs.Standing.{CoreState}
use Rattle.numa_mask.specs.NodeSet.{both}
use Rattle.numa_space.specs.Standing.{SpaceState}
use Rattle.numa_run.proofs.Paged.{migrate-both, migrate-other}
use Rattle.numa_run.proofs.running.Running.migrate.Goals as goal

pub returns-in_default : goal.returns-in_default
returns-in_default c =
    migrate-other c.args.self.now c.reply_of-reply.new.self c.args.from.now c.args.to.now
    c.reply_of-reply.result c.reply_of-reply.ensures.serves c.reply_of-reply.ensures.huge
    c.in_default.not-Moved

pub returns : goal.returns
returns c =
    migrate-both c.args.self.now c.reply_of-reply.new.self c.args.from.now c.args.to.now
    c.reply_of-reply.result c.reply_of-reply.ensures.serves c.reply_of-reply.ensures.huge
    c.follow_kept-more.new.huge c.in-Moved.moved c.in-Moved.left c.and-targets.result
    c.follow_kept-more.result c.saturating_add.result c.in-Moved.is
    (c.and-targets.ensures ∙ ap (both c.args.to.now) (c.allowed.ensures.allowed
    ∙ ap (λ (s : SpaceState). s.allowed) c.space.ensures.space
    ∙ ap (λ (k : CoreState). k.space.allowed) c.reply_of-reply.ensures.core))
    c.follow_kept-more.ensures.follows c.follow_kept-more.ensures.moved c.saturating_add.ensures
