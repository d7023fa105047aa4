use Rattle.std.proofs.Common.{arith}
use Rattle.numa_script.proofs.Spaces.{lanes_marked}
use Rattle.numa_script.proofs.words.spaces_of.Goals as goal

pub returns : goal.returns
returns g c =
    lanes_marked c.args.line.now c.args.at g.row.LANES c.requires.some
    (omega (arith, c.requires.lanes))
