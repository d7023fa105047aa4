use Rattle.std.proofs.Common.{◌≡◌, ℕ, ◌-◌, ◌++◌, [], List, take, drop, length, slice_index, refl}
use Rattle.std.proofs.Common.{ap, sym, ◌∙◌, arith, rules}
use Rattle.numa_mask.proofs.Sets.{members-few}
use Rattle.numa_machine.specs.declared.fallback.Fallback.TheVariants.{Kernel}
use Rattle.numa_machine.specs.declared.rules.Rules.TheVariants.{Document}
use Rattle.numa_machine.specs.Machine.{Hardware, order_by, fallback_order, loads_before}
use Rattle.numa_machine.proofs.Inserted.{part_behind}
use Rattle.numa_machine.proofs.Loads.{loads-few, list-made, loads-more}
use Rattle.numa_machine.proofs.Nodes.{flat_map-range_more}
use Rattle.numa_machine.proofs.Stored.{length-order_by}
use Rattle.numa_machine.proofs.kernel_orders.kernel_orders.Goals as goal

abbrev described : ℕ → ℕ → List ℕ → ℕ → Hardware
described nodes memory table cpus =
    record {
      nodes = nodes;
      memory = memory;
      distances = table;
      frames = [];
      rules = Document;
      fallback = Kernel cpus;
    }

pub loop-from-init : goal.loop-from-init
unfolding loads_before
loop-from-init c = record { items = c.in_ok-orders.ensures.items; loads = refl }

pub fill_costs-requires-clause-loads : goal.fill_costs-requires-clause-loads
fill_costs-requires-clause-loads c = λ to.
    omega (
      arith,
      loads-few (described c.args.nodes c.args.memory.now c.args.table.now c.args.cpus.now)
          c.args.cpus.now c.loop-from.from to,
      ap (λ (l : List ℕ). slice_index l to)
          c.loop-from.invariant.loads,
      c.requires.nodes,
    )

pub count_turns-requires-clause-loads : goal.count_turns-requires-clause-loads
count_turns-requires-clause-loads c = λ node.
    let part : take (length c.deref.result.now - c.len-base.result)
    (drop c.len-base.result c.deref.result.now)
    ≡ order_by (λ to. slice_index c.fill_costs.new.costs to) c.args.memory.now =
    part_behind c.loop-from.orders.items c.deref.result.now
    (order_by (λ to. slice_index c.fill_costs.new.costs to) c.args.memory.now) c.len-base.result
    (search rules) (c.deref.ensures.value ∙ c.in_ok-append_order.ensures) in
    omega (
      arith,
      ap length part,
      length-order_by (λ to. slice_index c.fill_costs.new.costs to)
          c.args.memory.now,
      members-few c.args.memory.now,
      loads-few (described c.args.nodes c.args.memory.now c.args.table.now c.args.cpus.now)
          c.args.cpus.now c.loop-from.from node,
      ap (λ (l : List ℕ). slice_index l node)
          c.loop-from.invariant.loads,
      c.requires.nodes,
    )

pub loop-from-preserved : goal.loop-from-preserved
loop-from-preserved c =
    let machine : Hardware = described c.args.nodes c.args.memory.now c.args.table.now
    c.args.cpus.now in
    let part : take (length c.deref.result.now - c.len-base.result)
    (drop c.len-base.result c.deref.result.now)
    ≡ order_by (λ to. slice_index c.fill_costs.new.costs to) c.args.memory.now =
    part_behind c.loop-from.orders.items c.deref.result.now
    (order_by (λ to. slice_index c.fill_costs.new.costs to) c.args.memory.now) c.len-base.result
    (search rules) (c.deref.ensures.value ∙ c.in_ok-append_order.ensures) in
    let made : order_by (λ to. slice_index c.fill_costs.new.costs to) c.args.memory.now
    ≡ fallback_order (described c.args.nodes c.args.memory.now c.args.table.now c.args.cpus.now)
    c.loop-from.from =
    list-made machine c.args.cpus.now c.loop-from.from c.fill_costs.new.costs c.loop-from.loads refl
    c.requires.memory c.loop-from.invariant.loads c.fill_costs.ensures in
    record {
      items =
          c.in_ok-append_order.ensures
          ∙ ap (λ (more : List ℕ). c.loop-from.orders.items ++ more) made
          ∙ ap (λ (before : List ℕ). before ++ fallback_order machine c.loop-from.from)
          c.loop-from.invariant.items
          ∙ sym (flat_map-range_more (fallback_order machine) c.loop-from.from);
      loads = c.count_turns.ensures ∙ loads-more machine c.args.cpus.now c.loop-from.from
          c.loop-from.loads (take (length c.deref.result.now - c.len-base.result)
          (drop c.len-base.result c.deref.result.now)) refl c.loop-from.invariant.loads
          (part ∙ made);
    }
