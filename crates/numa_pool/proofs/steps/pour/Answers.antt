use Rattle.std.proofs.Common.{arith, ◌∙◌, ap, sym}
use Rattle.numa_pool.proofs.StepLemmas.{joins}
use Rattle.numa_pool.proofs.steps.pour.Goals as goal

pub join_seat-requires : goal.join_seat-requires
join_seat-requires c =
    let words = sym (ap (λ w. w.table) c.words.view_is) in
    let wide = c.words.invariant.words in
    let some_node = c.words.invariant.some in (
      ap (λ t. t.table) c.token.view_is ∙ c.requires.0 ∙ words,
      ap (λ t. t.table) c.other.view_is
          ∙ c.requires.1 ∙ words,
      c.other.invariant.0,
      omega arith,
      joins c.words.inside.table.shared.key.items _ _ _ _ c.token.invariant.1 c.other.invariant.1,
    )
