-- The routes of a replay, as values.
use Rattle.std.specs.Prelude.{unwrap_or}
use Rattle.numa_traces.specs.Tallies.{Route}
use Rattle.numa_traces.specs.declared.routes.RouteCounts.{RouteCounts}
use Rattle.numa_traces.specs.declared.tallies.AccessCounts.{AccessCounts}

-- a route with its counts; 256 in place of the node where its pages found no frame
abbrev pub route_told : Route × AccessCounts → RouteCounts
route_told met = record {
  accesses = met.1.accesses;
  faults = met.1.faults;
  task = met.0.0;
  cpu = met.0.1;
  node = unwrap_or met.0.2 256;
}
