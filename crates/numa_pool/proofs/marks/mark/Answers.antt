use Rattle.std.proofs.Common.{◌∙◌, arith}
use Rattle.std.proofs.lemmas.Grind.{get_or_default_zero}
use Rattle.numa_pool.proofs.Marking.{mark-bits}
use Rattle.numa_pool.proofs.marks.mark.Goals as goal

pub returns-clause-bits : goal.returns-clause-bits
returns-clause-bits c =
    let r = c.requires in
    let f = c.args.frame in
    rw (c.index_mut.ensures.value ∙ get_or_default_zero c.args.bits.now.items _ _ (omega arith))
    (mark-bits c.args.bits.now.items f.node f.number r.0 r.1)
