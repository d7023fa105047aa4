use Rattle.std.proofs.Common.{◌≡◌}
use Rattle.tests_of_threads.proofs.tests.migrating.take_turns.Given as goal

-- the seat is of the pools
abbrev pub invariant-loop : goal.invariant-loop
invariant-loop l = l.worker.seat.table ≡ l.pools.table
