use Rattle.numa_host.specs.declared.process.Process.{Process}
use Rattle.numa_host.specs.Processes.{when_moved}
use Rattle.numa_host.specs.Groups.{effective_mems}
use Rattle.numa_host.specs.Following.{HasMore}
use Rattle.numa_host.proofs.Following.{ArePartly}
use Rattle.numa_host.proofs.process.allow_all.Given as goal

abbrev pub invariant-loop-process : goal.invariant-loop-process
invariant-loop-process l =
    ArePartly (λ (p q : Process). HasMore
    (when_moved p.space.allowed (effective_mems l.memory l.groups p.group))
    (effective_mems l.memory l.groups p.group) p q) l.process-index l.fn.processes l.processes
