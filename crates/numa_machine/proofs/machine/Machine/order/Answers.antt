use Rattle.std.proofs.Common.{◌≡◌, ◌+◌, ◌*◌, ◌-◌, ◌<◌, ◌≤◌, length, take, drop, All, sym, ap, ◌∙◌}
use Rattle.std.proofs.Common.{subst, arith, rules}
use Rattle.numa_mask.specs.NodeSet.{members, weight_of}
use Rattle.numa_machine.specs.Machine.{Hardware, fallback_order, IsDistanceOrder, IsFallbackOrder}
use Rattle.numa_machine.proofs.Nearest.{IsDistanceOrder-distance_order}
use Rattle.numa_machine.proofs.Nearest.{IsFallbackOrder-fallback_order, fallback_order-nearest}
use Rattle.numa_machine.proofs.NoFault.{some_memory, memory_within}
use Rattle.numa_machine.proofs.Stored.{length-fallback_order, part_within, part_is_order}
use Rattle.numa_machine.proofs.Stored.{fallback_order-within}
use Rattle.numa_machine.proofs.machine.Machine.order.Goals as goal

part : (c : goal.After-result-1)
    → take (c.args.node * c.weight-width.result + c.weight-width.result - c.args.node
    * c.weight-width.result) (drop (c.args.node * c.weight-width.result) c.deref.result.now)
    ≡ fallback_order c.args.self.now c.args.node
part c =
    part_is_order _ c.args.self.now c.deref.result.now c.args.node c.weight-width.result
    c.self.view_is (c.deref.ensures.value ∙ c.self.invariant.orders_of_nodes)
    c.weight-width.ensures.weight c.requires

pub slice_bounds-result-end : goal.slice_bounds-result-end
slice_bounds-result-end c =
    let within : c.args.node * c.weight-width.result + c.weight-width.result
    ≤ length c.deref.result.now =
    part_within _ c.args.self.now c.deref.result.now c.args.node c.weight-width.result
    c.self.view_is (c.deref.ensures.value ∙ c.self.invariant.orders_of_nodes)
    c.weight-width.ensures.weight c.requires in
    search rules

pub returns-clause-order : goal.returns-clause-order
returns-clause-order c = part c

pub returns-clause-nearest : goal.returns-clause-nearest
returns-clause-nearest c = λ nearest.
    subst (IsDistanceOrder c.args.self.now c.args.node)
    (sym (part c ∙ fallback_order-nearest c.args.self.now c.args.node nearest))
    (IsDistanceOrder-distance_order c.args.self.now c.args.node)

pub returns-clause-cheapest_first : goal.returns-clause-cheapest_first
returns-clause-cheapest_first c =
    subst (IsFallbackOrder c.args.self.now c.args.node) (sym (part c))
    (IsFallbackOrder-fallback_order c.args.self.now c.args.node)

pub returns-clause-some : goal.returns-clause-some
returns-clause-some c =
    let width : c.weight-width.result ≡ weight_of c.args.self.now.memory =
    c.weight-width.ensures.weight ∙ ap (λ (h : Hardware). weight_of h.memory) c.self.view_is in
    omega (
      arith,
      ap length (part c),
      length-fallback_order c.args.self.now c.args.node,
      width,
      c.weight-width.ensures.some (some_memory _ _ _ _ c.self.invariant.no_fault),
    )

pub returns-clause-of_the_machine : goal.returns-clause-of_the_machine
returns-clause-of_the_machine c =
    let members_within : All (λ node. node < c.args.self.now.nodes)
    (members c.args.self.now.memory) =
    subst (λ (h : Hardware). All (λ node. node < h.nodes) (members h.memory)) c.self.view_is
    (memory_within _ _ _ _ c.self.invariant.no_fault) in
    subst (All (λ node. node < c.args.self.now.nodes)) (sym (part c))
    (fallback_order-within c.args.self.now c.args.node c.args.self.now.nodes members_within)
