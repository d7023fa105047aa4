use Rattle.numa_refinement.proofs.Handing.{opening-ties, split-ties, join-ties, join-ends}
use Rattle.numa_refinement.proofs.Handing.{no-passing}
use Rattle.numa_refinement.proofs.walks.seats_come_and_go.Goals as goal

pub returns-clause-split : goal.returns-clause-split
returns-clause-split c = split-ties

pub returns-clause-join : goal.returns-clause-join
returns-clause-join c = join-ties

pub returns-clause-ended : goal.returns-clause-ended
returns-clause-ended c s world old new id other f tied m held after =
    join-ends s world old new id other tied m f.node f.number (held.0, held.1, held.2) after

pub returns-clause-opening : goal.returns-clause-opening
returns-clause-opening c = opening-ties

pub returns-clause-no_event : goal.returns-clause-no_event
returns-clause-no_event c s world version n k id other event =
    no-passing s world version event n k id other
