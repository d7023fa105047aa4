-- Rows that stand in the chunk stand in the list.
use Rattle.std.proofs.Common.{length, ap, subst, sym, arith}
use Rattle.numa_rows.specs.Searches.{StandAt, PartData}
use Rattle.numa_rows.proofs.Standing.{stands-in-part}
use Rattle.numa_rows.proofs.part.Part.at.Goals as goal

pub returns-clause-part : goal.returns-clause-part
returns-clause-part g c =
    let chunk = c.index-chunks-place.result in
    let there = subst (λ (part : PartData g.row.T.Denot). StandAt chunk part.start part.rows)
    (sym c.part.view_is) c.part_at-part.ensures.part in
    stands-in-part c.args.chunks.now c.args.place.chunk c.args.place.start c.args.rank
    c.part.inside.start chunk c.part.inside.rows.now c.requires c.index-chunks-place.is there

pub offset_bounds-chunks-place : goal.offset_bounds-chunks-place
offset_bounds-chunks-place g c = omega (arith, c.requires.within)

pub bounds-chunks-place : goal.bounds-chunks-place
bounds-chunks-place g c = c.requires.within

pub overflow_sub-rank : goal.overflow_sub-rank
overflow_sub-rank g c = c.requires.from

pub part_at-part-requires : goal.part_at-part-requires
part_at-part-requires g c =
    omega (
      arith,
      c.requires.to c.index-chunks-place.result,
      c.requires.from,
      ap length c.index-chunks-place.is,
    )
