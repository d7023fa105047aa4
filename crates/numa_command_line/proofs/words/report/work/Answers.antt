use Rattle.std.proofs.Common.{sym}
use Rattle.numa_command_line.proofs.words.report.work.Goals as goal

pub returns : goal.returns
returns c = rw (sym c.in_ok-lines.ensures) c.work.ensures
