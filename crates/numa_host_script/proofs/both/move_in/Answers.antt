use Rattle.std.proofs.Common.{sym, ◌∙◌}
use Rattle.numa_host_script.proofs.BothMoved.{move-rests, move-stays}
use Rattle.numa_host_script.proofs.both.move_in.Goals as goal

pub move_huge-requires : goal.move_huge-requires
move_huge-requires c = sym c.is_huge_at.ensures.kept ∙ c.if-is_huge_at.true

pub returns-then-not-tells_move-clause-runs : goal.returns-then-not-tells_move-clause-runs
returns-then-not-tells_move-clause-runs c =
    move-stays c.args.running.now c.change_small-told.new.running c.args.process c.args.address
    c.args.node c.change_small-told.result c.change_small-told.ensures.runs
    (λ at stands. sym (c.is_huge_at.ensures.huge at.lying.huge stands.lies.huge)
    ∙ c.if-is_huge_at.false)
    (sym c.tells_move.ensures ∙ c.if-not-tells_move.true)

pub returns-clause-runs : goal.returns-clause-runs
returns-clause-runs c =
    move-rests c.args.running.now c.change_small-told.new.running c.args.process c.args.address
    c.args.node c.change_small-told.result c.change_small-told.ensures.runs
    (λ at stands. sym (c.is_huge_at.ensures.huge at.lying.huge stands.lies.huge)
    ∙ c.if-is_huge_at.false)
    (sym c.tells_move.ensures ∙ c.if-not-tells_move.false) c.rest.new.self c.rest.ensures
