use Rattle.std.proofs.Common.{◌≡◌, ◌++◌, map}
use Rattle.numa_traces.specs.Hosting.{counted_in}
use Rattle.numa_traces.proofs.host_mark.counted.Given as goal

abbrev pub invariant-loop-process : goal.invariant-loop-process
invariant-loop-process l = l.counted.items ++ map counted_in l.process-iterator
    ≡ map counted_in l.host.processes
