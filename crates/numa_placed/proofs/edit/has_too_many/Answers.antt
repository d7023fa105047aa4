use Rattle.std.proofs.Common.{arith}
use Rattle.numa_placed.proofs.Begun.{kept-short, many-kept}
use Rattle.numa_placed.proofs.edit.has_too_many.Goals as goal

pub returns-then-len-le-MOST_RUNS-clause-few : goal.returns-then-len-le-MOST_RUNS-clause-few
returns-then-len-le-MOST_RUNS-clause-few c few =
    omega (
      arith,
      kept-short c.args.places.now c.iter.ensures.rising c.iter.ensures.maximal,
      c.len.ensures.runs,
      c.if-len-le-MOST_RUNS.true,
    )

pub returns-then-counted_runs-gt-MOST_RUNS-clause-many :
    goal.returns-then-counted_runs-gt-MOST_RUNS-clause-many
returns-then-counted_runs-gt-MOST_RUNS-clause-many c more =
    many-kept c.args.places.now (omega (
      arith,
      c.counted_runs.ensures,
      c.if-counted_runs-gt-MOST_RUNS.true,
    ))
