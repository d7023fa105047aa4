use Rattle.std.proofs.Common.{◌≡◌, ◌++◌, replicate}
use Rattle.numa_compile.proofs.turns.push_turns.Given as goal

abbrev pub invariant-loop : goal.invariant-loop
invariant-loop l = l.cycle.items ≡ l.initial.cycle.items ++ replicate l.counter l.place
