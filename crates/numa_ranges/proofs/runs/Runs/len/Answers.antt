-- Each row has one run.
use Rattle.std.proofs.Common.{ap, sym, ◌∙◌, length}
use Rattle.numa_ranges.proofs.Numbered.{length-runs}
use Rattle.numa_ranges.proofs.runs.Runs.len.Goals as goal

pub returns-clause-len : goal.returns-clause-len
returns-clause-len g c = c.len.ensures.len
    ∙ sym (length-runs c.self.inside.values c.self.inside.rows c.self.invariant)
    ∙ ap length c.self.view_is
