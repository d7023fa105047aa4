use Rattle.std.proofs.Common.{◌∙◌}
use Rattle.numa_lines.proofs.Marks.{as_dropped}
use Rattle.numa_lines.proofs.worked.begins_mark.Goals as goal

pub returns-clause-value : goal.returns-clause-value
returns-clause-value c = c.starts_with.ensures.value ∙ as_dropped c.args.text.now c.args.place
