use Rattle.std.proofs.Common.{sym, ◌∙◌}
use Rattle.numa_run.proofs.running.Running.populate.Goals as goal

pub populate_both-requires : goal.populate_both-requires
populate_both-requires c = λ memory stands.
    sym (c.has_huge.ensures memory stands) ∙ c.if-has_huge.true

pub populate_small-requires : goal.populate_small-requires
populate_small-requires c = λ memory stands.
    sym (c.has_huge.ensures memory stands) ∙ c.if-has_huge.false
