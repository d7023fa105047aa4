-- What is behind the moves so far, and those that are left, is all.
use Rattle.std.proofs.Common.{◌≡◌, ◌++◌, drop}
use Rattle.numa_moves.specs.Moving.{shares_behind}
use Rattle.numa_moves.proofs.moving.shares_behind.Given as goal

abbrev pub invariant-loop-moved : goal.invariant-loop-moved
invariant-loop-moved l = l.shares.items ++ shares_behind (drop l.moved-index l.moves)
    ≡ shares_behind l.moves
