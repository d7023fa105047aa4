use Rattle.numa_refinement.proofs.Calling.{called, stays-on}
use Rattle.numa_refinement.proofs.Preceding.{was-published}
use Rattle.numa_refinement.proofs.laws.desks_of_an_interleaving.Goals as goal

pub returns-clause-desk : goal.returns-clause-desk
returns-clause-desk c = called

pub returns-clause-stays : goal.returns-clause-stays
returns-clause-stays c = stays-on

pub returns-clause-was : goal.returns-clause-was
returns-clause-was c = was-published
