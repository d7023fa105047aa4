-- Those that are put, and then the others as they are to stand, are all.
use Rattle.std.proofs.Common.{◌≡◌, ◌++◌, drop}
use Rattle.numa_moves.specs.Held.{arranged}
use Rattle.numa_moves.proofs.arranging.put_first.Given as goal

abbrev pub invariant-loop-process : goal.invariant-loop-process
invariant-loop-process l =
    l.first.items ++ arranged (drop l.process-index l.order) l.holdings.items
    ≡ arranged l.order l.fn.holdings.items
