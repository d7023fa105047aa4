use Rattle.std.proofs.Common.{Ok, Err, Some, None, ap, ◌∙◌}
use Rattle.numa_pages.specs.Changes.{moving_of}
use Rattle.numa_pages.proofs.Moves.{found-so, lacks}
use Rattle.numa_pages.proofs.pages.Pages.bind_moving.Goals as goal

pub bind_both-requires : goal.bind_both-requires
bind_both-requires c =
    rw (← c.self.view_is) (found-so
    (moving_of c.args.start c.args.length c.args.spec c.args.task c.args.cpu)
    (record { core = c.self.inside.core; state = c.self.inside.state; huge = c.self.inside.huge })
    c.space-space.result.now
    c.new-none.result c.sent.result (Ok (Some c.in-Ok-Some.sent)) c.space-space.ensures.space
    c.new-none.ensures (c.in-Ok-Some.is ∙ ap Ok c.in-Ok-Some.field-0-is) c.sent.ensures)

pub refuse-requires : goal.refuse-requires
refuse-requires c =
    rw (← c.self.view_is) (found-so
    (moving_of c.args.start c.args.length c.args.spec c.args.task c.args.cpu)
    (record { core = c.self.inside.core; state = c.self.inside.state; huge = c.self.inside.huge })
    c.space-space.result.now
    c.new-none.result c.sent.result (Ok None) c.space-space.ensures.space
    c.new-none.ensures (c.in-Ok-None.is ∙ ap Ok c.in-Ok-None.field-0-is) c.sent.ensures)

pub returns : goal.returns
returns c =
    rw (← c.self.view_is, c.lack_told.ensures) (lacks
    (moving_of c.args.start c.args.length c.args.spec c.args.task c.args.cpu) c.args.strict
    (record { core = c.self.inside.core; state = c.self.inside.state; huge = c.self.inside.huge })
    c.in-Err.cause
    (found-so (moving_of c.args.start c.args.length c.args.spec c.args.task c.args.cpu)
    (record { core = c.self.inside.core; state = c.self.inside.state; huge = c.self.inside.huge })
    c.space-space.result.now
    c.new-none.result c.sent.result (Err c.in-Err.cause) c.space-space.ensures.space
    c.new-none.ensures c.in-Err.is c.sent.ensures))
