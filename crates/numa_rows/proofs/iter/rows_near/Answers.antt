-- The place that was found has the row.
use Rattle.std.proofs.Common.{arith}
use Rattle.numa_rows.proofs.iter.rows_near.Goals as goal

pub place_of-place-requires-clause-table : goal.place_of-place-requires-clause-table
place_of-place-requires-clause-table g c = c.requires.table

pub place_of-place-requires-clause-rank : goal.place_of-place-requires-clause-rank
place_of-place-requires-clause-rank g c = omega (arith, c.requires.rank)

pub from_place-requires : goal.from_place-requires
from_place-requires g c = c.place_of-place.ensures

pub returns : goal.returns
returns g c = c.from_place.ensures
