use Rattle.numa_host.specs.Groups.{groups_of}
use Rattle.numa_host.proofs.Effective.{effective-some, memory-some}
use Rattle.numa_host.proofs.Nested.{groups-tree, tree-nested}
use Rattle.numa_host.proofs.laws.group_nodes.Goals as goal

pub returns-clause-some : goal.returns-clause-some
returns-clause-some c = λ memory history name some.
    let are = effective-some memory (groups_of history) name (memory-some memory some) in
    (are.some, are.inside)

pub returns-clause-nested : goal.returns-clause-nested
returns-clause-nested c = λ machine bounds history memory accepted. tree-nested memory
    (groups_of history) (groups-tree machine bounds history accepted)
