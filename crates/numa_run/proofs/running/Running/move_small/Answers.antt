use Rattle.numa_run.proofs.Paged.{small-rested, small-stayed}
use Rattle.numa_run.proofs.running.Running.move_small.Goals as goal

pub returns-in_default : goal.returns-in_default
returns-in_default c =
    small-stayed c.args.self.now c.args.address c.args.node c.reply_of-reply.new.self
    c.reply_of-reply.result c.reply_of-reply.ensures.serves c.reply_of-reply.ensures.huge
    c.requires c.in_default.not-MovedTo

pub returns : goal.returns
returns c =
    small-rested c.args.self.now c.args.address c.args.node c.reply_of-reply.new.self
    c.reply_of-reply.result c.reply_of-reply.ensures.serves c.reply_of-reply.ensures.huge
    c.requires c.rest_kept.new.huge c.rest_kept.ensures c.in-MovedTo.field-0 c.in-MovedTo.is
