use Rattle.std.proofs.Common.{length, arith, ◌∙◌, ap, sym}
use Rattle.numa_pool.specs.declared.view.Entry.TheVariants.{Load}
use Rattle.numa_pool.specs.Steps.{with_entry}
use Rattle.numa_pool.proofs.StepLemmas.{looks, node_of_word, word_of_word}
use Rattle.numa_pool.proofs.steps.look.Goals as goal

pub load-requires : goal.load-requires
load-requires c =
    let one_table = ap (λ t. t.table) c.token.view_is ∙ c.requires.table
    ∙ sym (ap (λ w. w.table) c.words.view_is) in
    let wide = c.words.invariant.words in
    let nodes = ap (λ w. length w.frames) c.words.view_is in
    let p = c.requires.word in (
      one_table,
      omega arith,
      looks c.words.inside.table.shared.key.items _ _ _ c.token.invariant.1 _ (omega arith),
    )

pub returns : goal.returns
returns c =
    let e = c.load.ensures in
    let l = c.requires.word.1 in (
      e.0 ∙ ap (λ t. t.table) c.token.view_is,
      ap (λ m. m.0) e.2
          ∙ λ i. with_entry (c.token.view_is i).view
          (Load (node_of_word c.args.node c.args.word l i)
          (word_of_word c.args.node c.args.word l i)
          c.load.result),
    )
