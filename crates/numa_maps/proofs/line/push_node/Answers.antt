use Rattle.std.proofs.Common.{◌++◌, codes, decimal, length, arith, ap, length-append}
use Rattle.std.proofs.lemmas.Fmt.{length-decimal-le}
use Rattle.numa_maps.proofs.line.push_node.Goals as goal

pub push_number-requires : goal.push_number-requires
push_number-requires c =
    omega (
      arith,
      c.requires.room,
      length-decimal-le 3 c.args.node (omega arith)
          (omega (arith, c.requires.node)) (omega (arith, c.requires.node)),
    )

pub push_number-requires-then-pages-gt0 : goal.push_number-requires-then-pages-gt0
push_number-requires-then-pages-gt0 c =
    omega (
      arith,
      c.requires.room,
      length-decimal-le 3 c.args.node (omega arith) (omega (arith, c.requires.node))
          (omega (arith, c.requires.node)),
      length-decimal-le 20 c.args.pages (omega arith) (omega (arith, c.ranges.pages.fits))
          c.ranges.pages.fits,
      ap length c.push_number.ensures,
      length-append (c.args.text.now.bytes ++ codes " N") (decimal c.args.node),
      length-append c.args.text.now.bytes (codes " N"),
    )

pub returns-then-pages-gt0-clause-short : goal.returns-then-pages-gt0-clause-short
returns-then-pages-gt0-clause-short c =
    omega (
      arith,
      length-decimal-le 3 c.args.node (omega arith) (omega (arith, c.requires.node))
          (omega (arith, c.requires.node)),
      length-decimal-le 20 c.args.pages (omega arith) (omega (arith, c.ranges.pages.fits))
          c.ranges.pages.fits,
      ap length c.push_number.ensures,
      ap length c.push_number-then-pages-gt0.ensures,
      length-append (c.args.text.now.bytes ++ codes " N") (decimal c.args.node),
      length-append c.args.text.now.bytes (codes " N"),
      length-append (c.push_number.new.text.bytes ++ codes "=") (decimal c.args.pages),
      length-append c.push_number.new.text.bytes (codes "="),
    )
