-- The first rows have the first runs.
use Rattle.std.proofs.Common.{ap, ◌∙◌}
use Rattle.numa_ranges.specs.Numbered.{runs_of}
use Rattle.numa_ranges.proofs.Numbered.{numbered-take, runs-take}
use Rattle.numa_ranges.proofs.join.keep_runs.Goals as goal

pub returns-clause-numbered : goal.returns-clause-numbered
returns-clause-numbered g c =
    rw c.truncate.ensures
    (numbered-take c.args._values.now c.args.count c.args.rows.now c.requires.numbered)

pub returns-clause-runs : goal.returns-clause-runs
returns-clause-runs g c = ap (runs_of c.args._values.now) c.truncate.ensures
    ∙ runs-take c.args._values.now c.args.count c.args.rows.now c.requires.numbered
