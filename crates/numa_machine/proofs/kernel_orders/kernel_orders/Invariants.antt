use Rattle.std.proofs.Common.{◌≡◌, [], flat_map}
use Rattle.std.specs.List.{range_with_len}
use Rattle.numa_machine.specs.declared.fallback.Fallback.TheVariants.{Kernel}
use Rattle.numa_machine.specs.declared.rules.Rules.TheVariants.{Document}
use Rattle.numa_machine.specs.Machine.{fallback_order, loads_before}
use Rattle.numa_machine.proofs.kernel_orders.kernel_orders.Given as goal

abbrev pub invariant-loop-from : goal.invariant-loop-from
invariant-loop-from l = record {
  items : l.orders.items
      ≡ flat_map
      (fallback_order (record {
        nodes = l.nodes;
        memory = l.memory;
        distances = l.table;
        frames =
            [];
        rules = Document;
        fallback = Kernel l.cpus;
      })) (range_with_len 0 l.from);
  loads : l.loads
      ≡ loads_before
      (record {
        nodes = l.nodes;
        memory = l.memory;
        distances = l.table;
        frames = [];
        rules =
            Document;
        fallback = Kernel l.cpus;
      }) l.cpus l.from;
}
