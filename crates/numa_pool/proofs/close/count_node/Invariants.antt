use Rattle.std.proofs.Common.{◌≡◌, ◌≤◌}
use Rattle.std.specs.Mem.Slots.{slots_items}
use Rattle.numa_pool.specs.Frames.{set_below}
use Rattle.numa_pool.proofs.close.count_node.Given as goal

abbrev pub invariant-loop-k : goal.invariant-loop-k
invariant-loop-k l = (l.count ≡ set_below (slots_items l.rest.words) l.node l.k) × (l.count ≤ l.k)
