-- No value so far is the one at the place.
use Rattle.std.proofs.Common.{◌≡◌, ◌<◌, ℕ}
use Rattle.std.specs.Prelude.{slice_index_or}
use Rattle.numa_ranges.proofs.values.Values.is_before.Given as goal

abbrev pub invariant-loop-earlier : goal.invariant-loop-earlier
invariant-loop-earlier g l = (k : ℕ) (d : g.row.T.Denot) → k < l.earlier
    → slice_index_or l.self k d ≡ slice_index_or l.self l.place d → ⊥
