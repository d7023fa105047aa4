use Rattle.std.proofs.Common.{◌≡◌, ap, sym, ◌∙◌}
use Rattle.numa_mask.specs.NodeSet.{both}
use Rattle.numa_machine.specs.Machine.{Hardware}
use Rattle.numa_space.specs.Standing.{SpaceState}
use Rattle.numa_host.proofs.Effective.{effective-some, memory-some}
use Rattle.numa_host.proofs.process.born.Goals as goal

pub allow-requires-clause-some : goal.allow-requires-clause-some
allow-requires-clause-some c =
    λ none. (effective-some c.memory-memory.result c.args.groups.now c.args.group
    (memory-some c.memory-memory.result c.memory-memory.ensures.some)).some
    (sym c.effective-nodes.ensures ∙ none)

pub allow-requires-clause-inside : goal.allow-requires-clause-inside
allow-requires-clause-inside c =
    let memory : c.in_ok-space.space.machine.memory ≡ c.memory-memory.result =
    ap (λ (s : SpaceState). s.machine.memory) c.in_ok-space.ensures.same
    ∙ sym (c.memory-memory.ensures.memory ∙ ap (λ (m : Hardware). m.memory) c.machine.ensures) in
    ap (λ m. both c.effective-nodes.result m) memory
    ∙ ap (λ s. both s c.memory-memory.result) c.effective-nodes.ensures
    ∙ (effective-some c.memory-memory.result c.args.groups.now c.args.group
    (memory-some c.memory-memory.result c.memory-memory.ensures.some)).inside
    ∙ sym c.effective-nodes.ensures
