-- Each value so far is new at its place.
use Rattle.std.proofs.Common.{◌<◌, ℕ}
use Rattle.numa_ranges.specs.Numbered.{IsNewAt}
use Rattle.numa_ranges.proofs.values.Values.are_different.Given as goal

abbrev pub invariant-loop-place : goal.invariant-loop-place
invariant-loop-place g l = (p : ℕ) → p < l.place → IsNewAt l.self p
