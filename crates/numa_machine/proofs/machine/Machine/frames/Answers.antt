use Rattle.std.proofs.Common.{◌≡◌, false, slice_index, ap, ◌∙◌, arith, rules}
use Rattle.numa_mask.specs.NodeSet.{has}
use Rattle.numa_machine.specs.Machine.{Hardware}
use Rattle.numa_machine.proofs.NoFault.{few_frames, no_frames_without_memory}
use Rattle.numa_machine.proofs.machine.Machine.frames.Goals as goal

pub returns-clause-at_most : goal.returns-clause-at_most
returns-clause-at_most c =
    let count : c.unwrap_or.result ≡ slice_index c.self.inside.frames.items c.args.node =
    search rules in
    omega (arith, count, few_frames _ _ _ _ c.self.invariant.no_fault c.args.node)

pub returns-clause-without_memory : goal.returns-clause-without_memory
returns-clause-without_memory c = λ none.
    let count : c.unwrap_or.result ≡ slice_index c.self.inside.frames.items c.args.node =
    search rules in
    let here : has c.self.inside.memory c.args.node ≡ false =
    ap (λ (hardware : Hardware). has hardware.memory c.args.node) c.self.view_is ∙ none in
    count ∙ no_frames_without_memory _ _ _ _ c.self.invariant.no_fault c.args.node here
