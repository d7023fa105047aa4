use Rattle.std.proofs.Common.{◌%◌, ap, arith}
use Rattle.std.proofs.lemmas.Bool.{le-ltb, lt-ltb}
use Rattle.numa_placed.specs.Spots.{pages_if}
use Rattle.numa_placed.proofs.Cycles.{below-counted}
use Rattle.numa_placed.proofs.turn.places_below.Goals as goal

pub returns-then-place-end : goal.returns-then-place-end
returns-then-place-end c =
    omega (
      arith,
      ap (λ b. pages_if b 1)
          (lt-ltb c.args.place (c.args.end % c.args.count) c.if-place-end.true),
      below-counted c.args.count c.args.place c.requires.place c.args.end,
    )

pub returns : goal.returns
returns c =
    omega (
      arith,
      ap (λ b. pages_if b 1)
          (le-ltb c.args.place (c.args.end % c.args.count) c.if-place-end.false),
      below-counted c.args.count c.args.place c.requires.place c.args.end,
    )
