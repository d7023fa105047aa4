use Rattle.numa_page_state.proofs.Begun.{kept-first}
use Rattle.numa_page_state.proofs.state.begins_starved.Goals as goal

pub returns-in-Ok-clause-kept : goal.returns-in-Ok-clause-kept
returns-in-Ok-clause-kept c = λ e.
    kept-first c.args.state.now c.in-Ok.begun c.in_default.is c.in-Ok.ensures
