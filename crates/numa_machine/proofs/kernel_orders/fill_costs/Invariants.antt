use Rattle.std.proofs.Common.{◌≡◌, ℕ, ◌+◌, ◌*◌, ◌<◌, length, slice_index, nat_lt, ◌==◌}
use Rattle.std.proofs.Common.{if◌then◌else◌}
use Rattle.numa_mask.specs.NodeSet.{has}
use Rattle.numa_machine.specs.Machine.{one_if}
use Rattle.numa_machine.proofs.kernel_orders.fill_costs.Given as goal

abbrev pub invariant-loop-to : goal.invariant-loop-to
invariant-loop-to l = record {
  wide : length l.costs ≡ 256;
  filled : (node : ℕ) → node < l.to
      → slice_index l.costs node
      ≡ (if node == l.from then 0
      else (slice_index l.table (l.from * l.nodes + node) + one_if (nat_lt node l.from) + one_if
      (has l.cpus node)) * 1024 + slice_index l.loads node);
}
