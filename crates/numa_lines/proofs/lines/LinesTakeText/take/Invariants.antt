use Rattle.std.proofs.Common.{◌≡◌, ℕ, List, ◌++◌, length}
use Rattle.numa_lines.specs.Cuts.{HasCut}
use Rattle.numa_lines.specs.Reading.{Takes}
use Rattle.numa_lines.proofs.lines.LinesTakeText.take.Given as goal

abbrev pub invariant-loop-end : goal.invariant-loop-end
invariant-loop-end g l =
    (front : List ℕ) × Takes (HasCut g.T.TakeLine.has_taken) l.fn.self l.fn.output l.self l.output
    front
    × (l.piece ≡ front ++ l.rest)

abbrev pub decreases-loop-end : goal.decreases-loop-end
decreases-loop-end g l = length l.rest
