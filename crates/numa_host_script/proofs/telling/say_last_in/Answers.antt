use Rattle.std.proofs.Common.{None, Some, refl}
use Rattle.numa_lines.proofs.Adding.{said_same}
use Rattle.numa_page_state.specs.Lying.{OfNodes, still as no_move}
use Rattle.numa_host_pages.specs.Homes.{lent}
use Rattle.numa_host_script.specs.Paging.{memory_at}
use Rattle.numa_host_script.proofs.Told.{huge-told, last-told}
use Rattle.numa_host_script.proofs.telling.say_last_in.Goals as goal

pub returns-in-Some : goal.returns-in-Some
returns-in-Some g c = λ at stands.
    let found = c.in-Some.ensures at.lying stands.lies in
    let memory = memory_at at c.args.process in
    said_same g.W.Write.contents c.args.output.now c.say_both_in.new.output _ _
    (last-told at c.args.process c.version-version.result (Some found.0) found.0.last memory
    (c.version-version.ensures.meaning at.history stands.stands) found.1 refl)
    (c.say_both_in.ensures found.0.last memory (c.last.ensures.lies
    (lent found.2.0 found.2.1 found.0) found.2.2)
    (huge-told c.pages_of-huge.result c.args.process at.lying.huge
    (c.pages_of-huge.ensures.home at.lying.huge stands.lies.huge)))

pub returns-in-None : goal.returns-in-None
returns-in-None g c = λ at stands.
    let memory = memory_at at c.args.process in
    said_same g.W.Write.contents c.args.output.now c.say_both_in-in-None.new.output _ _
    (last-told at c.args.process c.version-version.result None (OfNodes no_move) memory
    (c.version-version.ensures.meaning at.history stands.stands)
    (c.in-None.ensures at.lying stands.lies) refl)
    (c.say_both_in-in-None.ensures (OfNodes no_move) memory c.still.ensures
    (huge-told c.pages_of-huge.result c.args.process at.lying.huge
    (c.pages_of-huge.ensures.home at.lying.huge stands.lies.huge)))
