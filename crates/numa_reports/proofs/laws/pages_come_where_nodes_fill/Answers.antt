use Rattle.numa_reports.proofs.Reaching.{comes-on, found-room, needs-on, none-full}
use Rattle.numa_reports.proofs.laws.pages_come_where_nodes_fill.Goals as goal

pub returns-clause-comes : goal.returns-clause-comes
returns-clause-comes c nodes node set room is full some = comes-on node nodes 0 set room is full some

pub returns-clause-needs : goal.returns-clause-needs
returns-clause-needs c nodes node room is =
    let found = needs-on node nodes 0 room (none-full room) is in
    (found-room node nodes room is, found.0, found.1, found.2)
