use Rattle.std.proofs.Common.{false}
use Rattle.numa_requests.specs.declared.host_command.HostCommand.TheVariants.{Exit}
use Rattle.numa_page_state.specs.Outcomes.{Enough}
use Rattle.numa_host_pages.proofs.Obeyed.{accepted, ended-are, refused}
use Rattle.numa_host_pages.proofs.obeying.end.Goals as goal

pub returns-in-Ok : goal.returns-in-Ok
returns-in-Ok c = accepted c.args.host.now c.args.pages.now (Exit c.args.process) c.apply.new.self
    c.ended.new.self c.in-Ok.ensures (λ history at stands lies are none. (
      λ place member. Enough,
      c.ended.ensures at lies,
      ended-are at history c.args.process are,
    ))

pub returns-in-Err : goal.returns-in-Err
returns-in-Err c = refused c.args.host.now c.args.pages.now _ c.in-Err.refusal c.apply.new.self
    c.in-Err.ensures
