use Rattle.std.proofs.Common.{◌≡◌, ℕ, ◌+◌, ◌*◌, ◌<◌, length, slice_index}
use Rattle.numa_machine.proofs.distance_orders.fill_distances.Given as goal

abbrev pub invariant-loop-to : goal.invariant-loop-to
invariant-loop-to l = record {
  wide : length l.costs ≡ 256;
  filled : (node : ℕ) → node < l.to → slice_index l.costs node ≡ slice_index l.table
      (l.from * l.nodes + node);
}
