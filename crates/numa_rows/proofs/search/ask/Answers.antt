-- What a row that was asked tells of the others.
use Rattle.std.proofs.Common.{sym, arith, refl}
use Rattle.std.proofs.lemmas.Fn.{says_at}
use Rattle.numa_rows.specs.Parts.{flat}
use Rattle.numa_rows.proofs.Narrowing.{asked-passed, asked-failed, read-part}
use Rattle.numa_rows.proofs.search.ask.Goals as goal

pub returns-then-pred-clause-narrowed : goal.returns-then-pred-clause-narrowed
returns-then-pred-clause-narrowed g c p gives parted so =
    let has = c.requires.has in
    let row = c.row-row.result.now in
    let read = read-part (flat c.args._chunks.now) c.args.part.now.rows c.args.part.now.start
    c.args.rank row c.requires.part has.from (omega (arith, has.from, has.to))
    (c.row-row.ensures row) in
    asked-passed p (flat c.args._chunks.now) c.args.left.base c.args.left.size c.args.rank row
    parted c.requires.from c.requires.to c.requires.within read
    (sym (gives _ _ (says_at g.P.Fn c.if-pred.ensures refl))) so

pub returns-else-pred-clause-narrowed : goal.returns-else-pred-clause-narrowed
returns-else-pred-clause-narrowed g c p gives parted so =
    let has = c.requires.has in
    let row = c.row-row.result.now in
    let read = read-part (flat c.args._chunks.now) c.args.part.now.rows c.args.part.now.start
    c.args.rank row c.requires.part has.from (omega (arith, has.from, has.to))
    (c.row-row.ensures row) in
    asked-failed p (flat c.args._chunks.now) c.args.left.base c.args.left.size c.args.rank row
    parted c.requires.from c.requires.to c.requires.within read
    (sym (gives _ _ (says_at g.P.Fn c.if-pred.ensures refl))) so
