use Rattle.std.proofs.Common.{◌∙◌}
use Rattle.numa_host.proofs.Allowing.{accepted-step, mems-same, never-refused, mems-free}
use Rattle.numa_host.proofs.Allowing.{below-nodes}
use Rattle.numa_requests.specs.declared.command.Command.TheVariants.{SetMems}
use Rattle.numa_host.proofs.process.allow.Goals as goal

pub unreachable-requires : goal.unreachable-requires
unreachable-requires c =
    never-refused c.args.space.now _ (SetMems c.args.nodes.now) c.apply.result
    c.in_default.field-0 c.version.ensures.history
    (mems-free c.args.space.now c.args.nodes.now c.requires.room c.requires.some
    c.requires.inside
    (below-nodes c.args.space.now c.args.nodes.now c.memory-memory.result c.machine.result.now
    c.memory-memory.ensures.memory c.machine.ensures c.weight.ensures.within
    c.memory-memory.ensures.of_the_machine c.requires.inside))
    (λ h. h) c.apply.ensures.applied c.in_default.is

pub returns-clause-allowed : goal.returns-clause-allowed
returns-clause-allowed c =
    (accepted-step c.args.space.now c.apply.new.self (SetMems c.args.nodes.now) c.apply.result
    c.apply.ensures.applied c.in-Ok.is).next.allowed
    ∙ mems-same c.args.space.now.machine c.args.nodes.now c.requires.some c.requires.inside
