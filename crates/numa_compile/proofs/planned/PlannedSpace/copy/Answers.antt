use Rattle.numa_compile.proofs.planned.PlannedSpace.copy.Goals as goal

pub invariant_of-result : goal.invariant_of-result
invariant_of-result c = rw (c.in-Ok.ensures, c.in_ok-space.ensures.same) c.self.invariant
