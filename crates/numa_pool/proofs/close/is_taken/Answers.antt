use Rattle.std.proofs.Common.{◌∙◌, sym}
use Rattle.numa_pool.proofs.Counting.{bit_in-of}
use Rattle.numa_pool.proofs.close.is_taken.Goals as goal

pub returns : goal.returns
returns c =
    let e = bit_in-of _ c.args.node c.args.k c.word.result c.word.ensures in
    let t = c.is_set.ensures in
    ((λ x. e ∙ t.0 x), (λ x. t.1 (sym e ∙ x)))
