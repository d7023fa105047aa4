use Rattle.numa_page_state.specs.Lying.{ground_in}
use Rattle.numa_page_state.proofs.Faulted.{fault-refused}
use Rattle.numa_page_state.proofs.state.PageState.fault_small.Goals as goal

pub returns-in-Err : goal.returns-in-Err
returns-in-Err c =
    fault-refused c.args.self.now c.populate.new.self
    (ground_in c.args.space.now c.args.resident.now) c.args.task c.args.page c.args.cpu
    c.in-Err.why c.in-Err.ensures.does
