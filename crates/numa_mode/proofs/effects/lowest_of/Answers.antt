use Rattle.std.proofs.Common.{◌≡◌, Some, subst, sym, ap, ◌∙◌}
use Rattle.numa_mask.specs.NodeSet.{with_node, nth_member}
use Rattle.numa_mode.specs.Within.{IsWithin}
use Rattle.numa_mode.proofs.Subsets.{with_node-within, zero-within, nth_member-has}
use Rattle.numa_mode.proofs.effects.lowest_of.Goals as goal

pub returns-in-Some-clause-within : goal.returns-in-Some-clause-within
returns-in-Some-clause-within c =
    let first : nth_member c.args.set.now 0 ≡ Some c.in-Some.node = sym c.first.ensures.first
    ∙ c.in-Some.is in
    let alone : c.insert.new.self ≡ with_node 0 c.in-Some.node = c.insert.ensures
    ∙ ap (λ set. with_node set c.in-Some.node) c.empty-alone.ensures in
    subst (λ set. IsWithin set c.args.set.now) (sym alone)
    (with_node-within 0 c.args.set.now c.in-Some.node (zero-within c.args.set.now)
    (nth_member-has c.args.set.now 0 c.in-Some.node first))
