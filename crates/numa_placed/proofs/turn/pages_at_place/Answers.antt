use Rattle.std.proofs.Common.{arith}
use Rattle.numa_placed.proofs.Cycles.{at-place}
use Rattle.numa_placed.proofs.turn.pages_at_place.Goals as goal

pub overflow_sub-result : goal.overflow_sub-result
overflow_sub-result c =
    omega (
      arith,
      c.places_below-below.ensures,
      c.places_below.ensures,
      at-place c.args.count c.args.place c.args.first c.args.pages,
    )

pub returns : goal.returns
returns c =
    omega (
      arith,
      c.places_below-below.ensures,
      c.places_below.ensures,
      at-place c.args.count c.args.place c.args.first c.args.pages,
    )
