use Rattle.std.proofs.Common.{ap, ◌∙◌}
use Rattle.numa_run.specs.Work.{won_by}
use Rattle.numa_run.proofs.Doing.{none_won}
use Rattle.numa_run.proofs.running.won_by.Goals as goal

pub returns-in_default : goal.returns-in_default
returns-in_default c = (
  ap won_by c.in-Ok.is ∙ none_won c.in-Ok.done c.in_default.not-Won,
  c.to_event-reply.ensures,
)
