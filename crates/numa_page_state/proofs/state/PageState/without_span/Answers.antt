use Rattle.std.proofs.Common.{sym, ◌∙◌}
use Rattle.numa_page_state.proofs.Unmapping.{forgets-lacks, forgets-some, forgets-still}
use Rattle.numa_page_state.proofs.state.PageState.without_span.Goals as goal

pub returns-then-not-has_stated : goal.returns-then-not-has_stated
returns-then-not-has_stated c =
    forgets-still c.args.self.now c.args.start c.args.length
    (sym c.has_stated.ensures ∙ c.if-not-has_stated.true)

pub returns-in-Ok : goal.returns-in-Ok
returns-in-Ok c =
    forgets-some c.args.self.now c.args.start c.args.length c.in-Ok.after
    (sym c.has_stated.ensures ∙ c.if-not-has_stated.false) c.in-Ok.ensures.ok

pub returns-in-Err : goal.returns-in-Err
returns-in-Err c =
    forgets-lacks c.args.self.now c.args.start c.args.length c.in-Err.refusal
    (sym c.has_stated.ensures ∙ c.if-not-has_stated.false) c.in-Err.ensures.err

pub forgotten-requires : goal.forgotten-requires
forgotten-requires c =
    sym c.has_stated.ensures ∙ c.if-not-has_stated.false
