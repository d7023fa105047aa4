-- What is left of the round gives the result.
use Rattle.std.proofs.Common.{◌≡◌, drop}
use Rattle.numa_pools.specs.Turns.{around}
use Rattle.numa_pools.specs.Rounds.{round}
use Rattle.numa_pools.proofs.turns.last_round.Given as goal

abbrev pub invariant-loop-place : goal.invariant-loop-place
invariant-loop-place l =
    round l.nodes (around l.mark) l.first l.times l.initial.room
    ≡ round l.nodes (drop l.place (around l.mark)) l.first l.left l.room
