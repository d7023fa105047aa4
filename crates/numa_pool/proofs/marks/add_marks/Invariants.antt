use Rattle.std.proofs.Common.{◌≡◌, ℕ, ◌<◌, ◌≤◌, get_or, length}
use Rattle.std.specs.Prelude.{bit_or}
use Rattle.numa_pool.proofs.marks.add_marks.Given as goal

abbrev pub invariant-loop-i : goal.invariant-loop-i
invariant-loop-i l = record {
  wide : length l.bits.items ≡ length l.other;
  before : (j : ℕ) → j < l.i → get_or l.bits.items j 0 ≡ bit_or (get_or l.fn.bits.items j 0)
      (get_or l.other j 0);
  after : (j : ℕ) → l.i ≤ j → get_or l.bits.items j 0 ≡ get_or l.fn.bits.items j 0;
}
