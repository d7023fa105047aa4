use Rattle.std.proofs.Common.{◌+◌, ◌<◌, ◌^◌, length, arith, inl}
use Rattle.numa_script.proofs.Columns.{length-le-width_of}
use Rattle.numa_script.proofs.malformed.count_of.Goals as goal

pub count-requires-clause-fits : goal.count-requires-clause-fits
count-requires-clause-fits c =
    let few : 0 + length c.args.words < 2 ^ 64 =
    omega (arith, length-le-width_of c.args.words, c.requires) in
    inl few
