-- The sum is of the shares so far.
use Rattle.std.proofs.Common.{take}
use Rattle.numa_moves.specs.Sums.{IsSumOf}
use Rattle.numa_moves.proofs.sheet.drawing.sum_of_all.Given as goal

abbrev pub invariant-loop-moved : goal.invariant-loop-moved
invariant-loop-moved l = IsSumOf (take l.moved-index l.moves) l.sum
