-- From the nodes so far.
use Rattle.std.proofs.Common.{◌≡◌, List}
use Rattle.numa_space.specs.Standing.{StandsFor}
use Rattle.numa_requests.specs.declared.command.Command.{Command}
use Rattle.numa_reports.specs.Comings.{comings_from}
use Rattle.numa_reports.proofs.coming.comings.Given as goal

abbrev pub invariant-loop-cpu : goal.invariant-loop-cpu
invariant-loop-cpu l = (history : List Command) → StandsFor l.space history
    → l.comings.items ≡ comings_from l.space.machine history l.task l.page l.node l.cpu
