use Rattle.std.proofs.Common.{◌≡◌, ℕ, ◌+◌, ◌≤◌, length, slice_index, drop, fold}
use Rattle.numa_machine.specs.Machine.{one_more_at, turns}
use Rattle.numa_machine.proofs.kernel_orders.count_turns.Given as goal

abbrev pub invariant-loop-node : goal.invariant-loop-node
invariant-loop-node l = record {
  few : (node : ℕ) → slice_index l.loads node + length l.order ≤ 65536 + l.node-index;
  left : fold one_more_at l.loads
      (turns (λ to. slice_index l.table (l.start + to)) l.before (drop l.node-index l.order))
      ≡ fold one_more_at l.initial.loads
      (turns (λ to. slice_index l.table (l.start + to)) 10 l.order);
}
