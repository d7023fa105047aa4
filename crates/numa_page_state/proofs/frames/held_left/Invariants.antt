-- The pages counted so far, and those that are left, are all of them.
use Rattle.std.proofs.Common.{◌≡◌, ℕ, ◌+◌, ◌<◌, ◌^◌, length}
use Rattle.numa_page_state.specs.Lying.{held_left}
use Rattle.numa_page_state.specs.Standing.{AreGone}
use Rattle.numa_page_state.proofs.frames.held_left.Given as goal

abbrev pub invariant-loop-placement : goal.invariant-loop-placement
invariant-loop-placement l = record {
  counts : (go : ℕ → ℕ) → AreGone l.to go
      → l.left + held_left l.placement-iterator go ≡ held_left l.resident go;
  few : l.left + length l.placement-iterator < 2 ^ 63;
}
