use Rattle.std.proofs.Common.{◌≡◌, ℕ, List, length, sym, ap, ◌∙◌, arith}
use Rattle.numa_mask.specs.NodeSet.{has}
use Rattle.numa_machine.specs.Machine.{fallback_order}
use Rattle.numa_space.specs.Lists.{within}
use Rattle.numa_space.specs.Standing.{SpaceState}
use Rattle.numa_space.proofs.ListSizes.{split-short, order-short}
use Rattle.numa_space.proofs.space.Space.nearest_before_others.Goals as goal

pub push_others-requires : goal.push_others-requires
push_others-requires c =
    let order : List ℕ = c.order.result.now in
    let first : c.nearest-list.result.items ≡ within c.args.set.now order =
    c.nearest-list.ensures ∙ ap
    (λ (s : SpaceState). within c.args.set.now (fallback_order s.machine c.args.from))
    (sym c.self.view_is) ∙ ap (within c.args.set.now) (sym c.order.ensures.order) in
    omega (
      arith,
      ap (length {A = ℕ}) first,
      split-short (has c.args.set.now) (has c.self.inside.allowed) order,
      ap (length {A = ℕ}) c.order.ensures.order,
      order-short c.self.inside.machine c.args.from,
    )
