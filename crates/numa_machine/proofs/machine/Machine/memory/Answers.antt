use Rattle.std.proofs.Common.{◌<◌, All, subst}
use Rattle.numa_mask.specs.NodeSet.{members}
use Rattle.numa_machine.specs.Machine.{Hardware}
use Rattle.numa_machine.proofs.NoFault.{some_memory, memory_within}
use Rattle.numa_machine.proofs.machine.Machine.memory.Goals as goal

pub returns-clause-some : goal.returns-clause-some
returns-clause-some c = some_memory _ _ _ _ c.self.invariant.no_fault

pub returns-clause-of_the_machine : goal.returns-clause-of_the_machine
returns-clause-of_the_machine c =
    subst (λ (hardware : Hardware). All (λ node. node < hardware.nodes)
    (members c.self.inside.memory)) c.self.view_is
    (memory_within _ _ _ _ c.self.invariant.no_fault)
