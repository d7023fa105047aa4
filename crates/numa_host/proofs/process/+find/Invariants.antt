use Rattle.std.proofs.Common.{length}
use Rattle.numa_host.specs.declared.process.Process.{Process}
use Rattle.numa_host.proofs.process.+find.Given as goal

abbrev pub decreases-find : goal.decreases-find
decreases-find l = length {A = Process} l.processes.now
