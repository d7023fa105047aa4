use Rattle.std.proofs.Common.{arith, ◌∙◌, ap, sym}
use Rattle.numa_pool.proofs.StepLemmas.{checks}
use Rattle.numa_pool.proofs.steps.check.Goals as goal

pub load-requires : goal.load-requires
load-requires c =
    let one_table = ap (λ t. t.table) c.token.view_is ∙ c.requires
    ∙ sym (ap (λ w. w.table) c.words.view_is) in
    let wide = c.words.invariant.words in
    let some_node = c.words.invariant.some in (
      one_table,
      omega arith,
      checks c.words.inside.table.shared.key.items _ _ _ c.token.invariant.1 _
          c.words.invariant.low,
    )
