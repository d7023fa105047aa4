use Rattle.std.proofs.Common.{◌≡◌, ℕ, ◌<◌, ◌≤◌, length}
use Rattle.std.specs.Prelude.{slice_index}
use Rattle.std.specs.Mem.Slots.{slots_items}
use Rattle.numa_pool.specs.Frames.{set_below}
use Rattle.numa_pool.proofs.close.count_all.Given as goal

abbrev pub invariant-loop-node : goal.invariant-loop-node
invariant-loop-node l = record {
  wide : length l.taken ≡ 256;
  done : (n : ℕ) → n < l.node → slice_index l.taken n ≡ set_below (slots_items l.rest.words) n
      (slice_index l.frames n);
  rest : (n : ℕ) → l.node ≤ n → slice_index l.taken n ≡ 0;
}
