-- With no row left, the rows that pass end there.
use Rattle.std.proofs.Common.{refl}
use Rattle.numa_rows.specs.Parts.{flat}
use Rattle.numa_rows.proofs.Narrowing.{at-start, at-end}
use Rattle.numa_rows.proofs.search.search_near.Goals as goal

pub returns-clause-partitioned : goal.returns-clause-partitioned
returns-clause-partitioned g c p gives parted =
    at-end p (flat c.args.chunks.now) c.ask_rows.result 0 refl
    (c.ask_rows.ensures.narrowed p gives parted
    (c.ask_chunk-left.ensures.narrowed p gives parted
    (at-start p (flat c.args.chunks.now) c.args.len c.requires.table.count)))
