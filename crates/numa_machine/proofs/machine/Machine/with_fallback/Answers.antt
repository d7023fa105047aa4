use Rattle.std.proofs.Common.{sym, ap, ◌∙◌}
use Rattle.numa_machine.specs.Machine.{Hardware, all_orders}
use Rattle.numa_machine.proofs.machine.Machine.with_fallback.Goals as goal

pub invariant_of-result : goal.invariant_of-result
invariant_of-result c = record {
  no_fault = c.self.invariant.no_fault;
  no_fallback_fault = sym c.fault_of_fallback.ensures ∙ c.in_default.is;
  orders_of_nodes =
      c.in_ok-orders.ensures
      ∙ ap
      (λ (h : Hardware). all_orders (record h { fallback = c.args.fallback }))
      (sym c.self.view_is);
}
