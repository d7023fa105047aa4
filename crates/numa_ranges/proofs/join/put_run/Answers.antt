-- The row that is put in has the run and the number of its value.
use Rattle.std.proofs.Common.{ap, ◌∙◌}
use Rattle.std.proofs.lemmas.Option.{slice_get_within}
use Rattle.numa_ranges.specs.Numbered.{run_of_row, runs_of}
use Rattle.numa_ranges.specs.declared.row.Row.{Row}
use Rattle.numa_ranges.proofs.Numbered.{numbered-set, runs-set}
use Rattle.numa_ranges.proofs.join.put_run.Goals as goal

pub returns-clause-numbered : goal.returns-clause-numbered
returns-clause-numbered g c =
    let row : Row = record {
      first = c.args.run.first;
      pages = c.args.run.pages;
      index =
          c.args.run.index;
      number = c.args.number;
    } in
    rw c.put_near.ensures
    (numbered-set c.args._values.now c.args.rows.now c.args.rank row c.requires.numbered
    (slice_get_within c.args._values.now c.args.number c.args.run.value c.requires.number))

pub returns-clause-runs : goal.returns-clause-runs
returns-clause-runs g c =
    let row : Row = record {
      first = c.args.run.first;
      pages = c.args.run.pages;
      index =
          c.args.run.index;
      number = c.args.number;
    } in
    ap (runs_of c.args._values.now) c.put_near.ensures ∙ runs-set c.args._values.now c.args.rows.now
    c.args.rank row c.args.run c.requires.numbered (ap (run_of_row row) c.requires.number)
