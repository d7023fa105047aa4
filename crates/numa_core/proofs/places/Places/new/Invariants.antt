use Rattle.std.proofs.Common.{◌≡◌, ℕ, ◌*◌, ◌<◌, ◌≤◌, take, slice_index, vec_len}
use Rattle.numa_core.specs.Standing.{frames_before}
use Rattle.numa_core.proofs.places.Places.new.Given as goal

abbrev pub invariant-loop-node : goal.invariant-loop-node
invariant-loop-node l = record {
  counts : l.frames.items ≡ take l.node l.machine.frames;
  as_long : vec_len l.frames ≡ l.node;
  sums_long : vec_len l.before ≡ l.node;
  sums : (n : ℕ) → n < l.node → slice_index l.before.items n ≡ frames_before l.machine.frames n;
  total : l.total ≡ frames_before l.machine.frames l.node;
  few : (n : ℕ) → n < l.node → slice_index l.machine.frames n ≤ 4096;
  small : l.total ≤ 4096 * l.node;
}
