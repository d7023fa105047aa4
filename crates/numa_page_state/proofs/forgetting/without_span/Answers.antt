use Rattle.numa_page_state.proofs.Unmapping.{forgets-none}
use Rattle.numa_page_state.proofs.forgetting.without_span.Goals as goal

pub returns-in-None : goal.returns-in-None
returns-in-None c = rw c.in-None.is (forgets-none c.args.start c.args.length)
