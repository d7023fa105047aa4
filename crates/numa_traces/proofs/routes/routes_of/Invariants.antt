use Rattle.std.proofs.Common.{◌≡◌, ◌++◌, map}
use Rattle.numa_traces.specs.Routes.{route_told}
use Rattle.numa_traces.proofs.routes.routes_of.Given as goal

abbrev pub invariant-loop-route : goal.invariant-loop-route
invariant-loop-route l = l.routes.items ++ map route_told l.route-iterator
    ≡ map route_told l.replay.tallies
