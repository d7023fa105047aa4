use Rattle.std.proofs.Common.{arith, slice_index}
use Rattle.std.specs.Prelude.{nat_lt}
use Rattle.std.proofs.lemmas.Bool.{ltb-true}
use Rattle.numa_ranges.proofs.Joined.{and_split}
use Rattle.numa_placed.proofs.cut.cut_page.Goals as goal

pub cut_of-requires-clause-few : goal.cut_of-requires-clause-few
cut_of-requires-clause-few c =
    let node = c.in-Some.node in
    let gone = slice_index c.args.gone.now node in
    let count = slice_index c.args.counts.now node in
    let ends = and_split (nat_lt 0 gone) (nat_lt gone count) c.in-Some.ensures.some in
    omega (arith, ltb-true gone count ends.1, c.requires.counts node (omega arith))
