use Rattle.numa_core.proofs.places.Places.total.Goals as goal

pub returns-clause-at_most : goal.returns-clause-at_most
returns-clause-at_most c = c.self.invariant.small
