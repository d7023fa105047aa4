use Rattle.std.proofs.Common.{length}
use Rattle.numa_host.specs.declared.process.Process.{Process}
use Rattle.numa_words.proofs.touching.+add_each.Given as goal

abbrev pub decreases-add_each : goal.decreases-add_each
decreases-add_each l = length {A = Process} l.processes.now
