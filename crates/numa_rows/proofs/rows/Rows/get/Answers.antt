-- The row is found from a guess at its chunk.
use Rattle.numa_rows.proofs.rows.Rows.get.Goals as goal

pub get_near-requires : goal.get_near-requires
get_near-requires g c = c.requires

pub returns : goal.returns
returns g c = c.get_near.ensures
