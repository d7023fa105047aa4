use Rattle.numa_pool.proofs.Marking.{blank_words}
use Rattle.numa_pool.proofs.marks.blank.Goals as goal

pub returns : goal.returns
returns c = blank_words c.args.words c.in_ok-bits.bits.items
    (c.in_ok-bits.ensures.items_if_clones_equal (λ y e. e))
