use Rattle.std.proofs.Common.{◌≡◌, drop}
use Rattle.numa_traces.specs.Hosting.{tallies_of}
use Rattle.numa_traces.proofs.host_mark.tallies_in.Given as goal

abbrev pub invariant-loop-other : goal.invariant-loop-other
invariant-loop-other l = tallies_of (drop l.other-index l.processes) l.process
    ≡ tallies_of l.processes l.process
