use Rattle.numa_page_state.proofs.Unmapping.{forgets-free, forgets-refused}
use Rattle.numa_page_state.proofs.forgetting.forgotten.Goals as goal

pub returns-in-Ok-forget-clause-ok : goal.returns-in-Ok-forget-clause-ok
returns-in-Ok-forget-clause-ok c =
    forgets-free c.args.placed.now c.in-Ok.after c.forget.new.self c.args.start c.args.length
    c.in-Ok.ensures c.in-Ok-forget.ensures.ok

pub returns-in-Err-clause-err : goal.returns-in-Err-clause-err
returns-in-Err-clause-err c =
    forgets-refused c.args.placed.now c.in-Ok.after c.in-Err.refusal c.args.start c.args.length
    c.in-Ok.ensures c.requires c.in-Err.ensures.err
