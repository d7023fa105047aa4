use Rattle.std.proofs.Common.{◌≡◌}
use Rattle.numa_traces.specs.Tallies.{are_unserved}
use Rattle.numa_traces.proofs.tallies.Tallies.are_unserved.Given as goal

abbrev pub invariant-loop-route : goal.invariant-loop-route
invariant-loop-route l = are_unserved l.route-iterator ≡ are_unserved l.self
