use Rattle.numa_fault.proofs.Falling.{never-fall, serves-grow, was-seen}
use Rattle.numa_fault.proofs.Lawful.{span-grows}
use Rattle.numa_fault.proofs.Seeing.{seen-between}
use Rattle.numa_fault.proofs.laws.versions_never_fall.Goals as goal

pub returns-clause-grows : goal.returns-clause-grows
returns-clause-grows c = serves-grow

pub returns-clause-spans : goal.returns-clause-spans
returns-clause-spans c = span-grows

pub returns-clause-versions : goal.returns-clause-versions
returns-clause-versions c = never-fall

pub returns-clause-seen : goal.returns-clause-seen
returns-clause-seen c = was-seen

pub returns-clause-published : goal.returns-clause-published
returns-clause-published c = seen-between
