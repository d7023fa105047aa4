use Rattle.std.proofs.Common.{None, Some}
use Rattle.numa_lines.proofs.Adding.{said_same}
use Rattle.numa_page_state.specs.Lying.{untouched}
use Rattle.numa_host_pages.specs.Homes.{lent}
use Rattle.numa_host_script.specs.Paging.{memory_at}
use Rattle.numa_host_script.proofs.Told.{huge-arrived, touches-told}
use Rattle.numa_host_script.proofs.telling.say_arrived_in.Goals as goal

pub returns-in-Some : goal.returns-in-Some
returns-in-Some g c = λ at stands.
    let found = c.in-Some.ensures at.lying stands.lies in
    let memory = memory_at at c.args.process in
    said_same g.W.Write.contents c.args.output.now c.say_arrived_with.new.output _ _
    (touches-told at c.args.process c.version-version.result (Some found.0)
    (c.version-version.ensures.meaning at.history stands.stands) found.1)
    (c.say_arrived_with.ensures found.0.arrived memory
    (c.arrived.ensures (lent found.2.0 found.2.1 found.0) found.2.2)
    (huge-arrived c.pages_of-huge.result c.args.process at.lying.huge
    (c.pages_of-huge.ensures.home at.lying.huge stands.lies.huge)))

pub returns-in-None : goal.returns-in-None
returns-in-None g c = λ at stands.
    let memory = memory_at at c.args.process in
    said_same g.W.Write.contents c.args.output.now c.say_arrived_with-in-None.new.output _ _
    (touches-told at c.args.process c.version-version.result None
    (c.version-version.ensures.meaning at.history stands.stands)
    (c.in-None.ensures at.lying stands.lies))
    (c.say_arrived_with-in-None.ensures untouched memory c.untouched.ensures
    (huge-arrived c.pages_of-huge.result c.args.process at.lying.huge
    (c.pages_of-huge.ensures.home at.lying.huge stands.lies.huge)))
