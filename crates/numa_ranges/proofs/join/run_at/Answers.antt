-- The row of the rank has the run of the rank.
use Rattle.numa_ranges.proofs.Numbered.{number-at, run-at}
use Rattle.numa_ranges.proofs.join.run_at.Goals as goal

pub with_value-requires : goal.with_value-requires
with_value-requires g c = number-at c.args.values.now c.args.rows.now c.args.rank
    c.get_near-row.result.now c.requires.numbered c.requires.within
    (c.get_near-row.ensures c.get_near-row.result.now)

pub returns-clause-run : goal.returns-clause-run
returns-clause-run g c d =
    run-at c.args.values.now c.args.rows.now c.args.rank c.get_near-row.result.now c.with_value.result d
    c.requires.numbered c.requires.within (c.get_near-row.ensures c.get_near-row.result.now)
    c.with_value.ensures
