use Rattle.std.proofs.Common.{◌≡◌, ap, sym, ◌∙◌}
use Rattle.numa_mask.specs.NodeSet.{both}
use Rattle.numa_host.specs.declared.process.Process.{Process}
use Rattle.numa_host.proofs.Effective.{effective-some, memory-some}
use Rattle.numa_host.proofs.process.move_to.Goals as goal

pub allow-requires-clause-some : goal.allow-requires-clause-some
allow-requires-clause-some c =
    λ none. (effective-some c.args.memory c.args.groups.now c.args.group
    (memory-some c.args.memory c.requires.some)).some (sym c.effective-nodes.ensures ∙ none)

pub allow-requires-clause-inside : goal.allow-requires-clause-inside
allow-requires-clause-inside c =
    let p : Process = c.index_mut-process.result.now in
    let memory : p.space.machine.memory ≡ c.args.memory =
    ap (λ (q : Process). q.space.machine.memory) c.index_mut-process.ensures.value
    ∙ (c.requires.room c.args.place p c.requires.place).1 in
    ap (λ m. both c.effective-nodes.result m) memory
    ∙ ap (λ s. both s c.args.memory) c.effective-nodes.ensures
    ∙ (effective-some c.args.memory c.args.groups.now c.args.group
    (memory-some c.args.memory c.requires.some)).inside
    ∙ sym c.effective-nodes.ensures
