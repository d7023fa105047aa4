use Rattle.std.proofs.Common.{◌≡◌, ℕ, ◌<◌}
use Rattle.std.specs.Mem.Slots.{slots_items}
use Rattle.numa_pool.specs.Frames.{bit_in}
use Rattle.numa_pool.proofs.close.is_all_marked.Given as goal

abbrev pub invariant-loop-k : goal.invariant-loop-k
invariant-loop-k l = (k : ℕ) → k < l.k → bit_in (slots_items l.rest.words) l.node k ≡ 1
    → bit_in l.bits l.node k ≡ 1
