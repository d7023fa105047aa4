use Rattle.std.proofs.Common.{◌≡◌, ℕ, ◌<◌}
use Rattle.std.specs.Prelude.{slice_index}
use Rattle.std.specs.Mem.Slots.{slots_items}
use Rattle.numa_pool.specs.Frames.{bit_in}
use Rattle.numa_pool.proofs.close.is_alone.Given as goal

abbrev pub invariant-loop-node : goal.invariant-loop-node
invariant-loop-node l = (n k : ℕ) → n < l.node → k < slice_index l.frames n
    → bit_in (slots_items l.rest.words) n k ≡ 1 → bit_in l.bits n k ≡ 1
