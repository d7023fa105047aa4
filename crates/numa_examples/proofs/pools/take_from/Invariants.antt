use Rattle.std.proofs.Common.{◌≡◌}
use Rattle.numa_examples.proofs.pools.take_from.Given as goal

abbrev pub invariant-loop : goal.invariant-loop
invariant-loop l = l.seat.table ≡ l.pools.table

abbrev pub invariant-loop-step : goal.invariant-loop-step
invariant-loop-step l = l.seat.table ≡ l.pools.table
