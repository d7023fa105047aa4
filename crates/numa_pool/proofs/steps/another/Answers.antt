use Rattle.std.proofs.Common.{arith, ◌∙◌, ap, sym}
use Rattle.numa_pool.proofs.StepLemmas.{splits}
use Rattle.numa_pool.proofs.steps.another.Goals as goal

pub split_seat-seat-requires : goal.split_seat-seat-requires
split_seat-seat-requires c =
    let one_table = ap (λ t. t.table) c.token.view_is ∙ c.requires
    ∙ sym (ap (λ w. w.table) c.words.view_is) in
    let wide = c.words.invariant.words in
    let some_node = c.words.invariant.some in
    (one_table, omega arith, splits c.words.inside.table.shared.key.items _ _ c.token.invariant.1)
