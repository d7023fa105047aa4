use Rattle.std.proofs.Common.{◌∷◌}
use Rattle.numa_host.specs.declared.process.Process.{Process}
use Rattle.numa_requests.specs.declared.command.Command.TheVariants.{SetWeight}
use Rattle.numa_host.specs.Following.{HasMore}
use Rattle.numa_host.proofs.Following.{ArePartly}
use Rattle.numa_host.proofs.process.weigh_all.Given as goal

abbrev pub invariant-loop-process : goal.invariant-loop-process
invariant-loop-process l =
    ArePartly (λ (p q : Process). HasMore (λ history. SetWeight l.node l.weight ∷ history)
    p.space.allowed p q) l.process-index l.fn.processes l.processes
