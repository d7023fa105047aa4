use Rattle.std.proofs.Common.{◌≡◌, None, [], refl, sym, ap, ◌∙◌}
use Rattle.numa_machine.specs.declared.fallback.Fallback.TheVariants.{Nearest}
use Rattle.numa_machine.specs.declared.rules.Rules.TheVariants.{Document}
use Rattle.numa_machine.specs.Machine.{all_orders}
use Rattle.numa_machine.specs.Faults.{machine_fault}
use Rattle.numa_machine.proofs.Stored.{all_orders-same}
use Rattle.numa_machine.proofs.NoFault.{few_nodes, memory_within}
use Rattle.numa_machine.proofs.machine.Machine.new.Goals as goal

pub distance_orders-requires-clause-nodes : goal.distance_orders-requires-clause-nodes
distance_orders-requires-clause-nodes c = few_nodes c.args.nodes c.args.memory c.args.distances.now
    c.args.frames.now (sym c.fault_of.ensures ∙ c.in_default.is)

pub distance_orders-requires-clause-memory : goal.distance_orders-requires-clause-memory
distance_orders-requires-clause-memory c = memory_within c.args.nodes c.args.memory c.args.distances.now
    c.args.frames.now (sym c.fault_of.ensures ∙ c.in_default.is)

pub invariant_of-result : goal.invariant_of-result
invariant_of-result c =
    let no_fault : machine_fault c.args.nodes c.args.memory c.args.distances.now c.args.frames.now
    ≡ None = sym c.fault_of.ensures ∙ c.in_default.is in
    record {
      no_fault =
          ap (λ xs. machine_fault c.args.nodes c.args.memory xs c.in_ok-frames.frames.items)
          c.in_ok-distances.ensures.items
          ∙ ap (λ xs. machine_fault c.args.nodes c.args.memory c.args.distances.now xs)
          c.in_ok-frames.ensures.items
          ∙ no_fault;
      no_fallback_fault = refl;
      orders_of_nodes =
          c.in_ok-orders.ensures
          ∙ ap
          (λ xs.
          all_orders (record {
            nodes = c.args.nodes;
            memory = c.args.memory;
            distances = xs;
            frames = [];
            rules = Document;
            fallback = Nearest;
          }))
          (sym c.in_ok-distances.ensures.items)
          ∙ all_orders-same c.args.nodes c.args.memory c.in_ok-distances.distances.items []
          c.in_ok-frames.frames.items Document Document Nearest;
    }
