use Rattle.std.proofs.Common.{sym, ◌∙◌}
use Rattle.numa_run.proofs.running.Running.move_page.Goals as goal

pub move_huge-requires : goal.move_huge-requires
move_huge-requires c = λ memory stands.
    sym (c.is_huge_at.ensures memory stands) ∙ c.if-is_huge_at.true

pub move_small-requires : goal.move_small-requires
move_small-requires c = λ memory stands.
    sym (c.is_huge_at.ensures memory stands) ∙ c.if-is_huge_at.false
