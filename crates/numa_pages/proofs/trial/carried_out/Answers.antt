use Rattle.numa_pages.proofs.Needing.{core-lacks}
use Rattle.numa_pages.proofs.trial.carried_out.Goals as goal

pub returns-in-Err-clause-room : goal.returns-in-Err-clause-room
returns-in-Err-clause-room c =
    core-lacks c.args.core.now c.args.command.now c.in-Err.refusal c.published.ensures.past
    (λ world of. (c.in-Err.ensures.answer world of).0)
