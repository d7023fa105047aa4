use Rattle.std.proofs.Common.{sym}
use Rattle.std.proofs.lemmas.Option.{get_or_from_slice_get}
use Rattle.numa_compile.proofs.recompiler.window.range_there.Goals as goal

pub returns-clause-there : goal.returns-clause-there
returns-clause-there c d = get_or_from_slice_get c.args.space.now.ranges c.args.place
    c.in-Some.range d (sym c.in-Some.ensures.range)
