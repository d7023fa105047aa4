use Rattle.std.proofs.Common.{◌∙◌}
use Rattle.numa_machine.proofs.Stored.{all_orders-same}
use Rattle.numa_machine.proofs.machine.Machine.with_rules.Goals as goal

pub invariant_of-result : goal.invariant_of-result
invariant_of-result c = record {
  no_fault = c.self.invariant.no_fault;
  no_fallback_fault = c.self.invariant.no_fallback_fault;
  orders_of_nodes =
      c.self.invariant.orders_of_nodes
      ∙ all_orders-same c.self.inside.nodes c.self.inside.memory c.self.inside.distances.items
      c.self.inside.frames.items c.self.inside.frames.items c.self.inside.rules c.args.rules
      c.self.inside.fallback;
}
