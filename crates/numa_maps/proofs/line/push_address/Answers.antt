use Rattle.std.proofs.Common.{◌*◌, ap, arith, length, length-append}
use Rattle.numa_maps.proofs.Hexes.{text-short}
use Rattle.numa_maps.specs.Listing.{address_text}
use Rattle.numa_maps.proofs.line.push_address.Goals as goal

pub push_hex-requires : goal.push_hex-requires
push_hex-requires c =
    omega (arith, text-short (c.args.page * 4096) (omega (arith, c.requires.page)), c.requires.room)

pub returns-clause-short : goal.returns-clause-short
returns-clause-short c =
    omega (
      arith,
      ap length c.push_hex.ensures,
      length-append c.args.text.now.bytes
          (address_text c.args.page),
      text-short (c.args.page * 4096) (omega (arith, c.requires.page)),
    )
