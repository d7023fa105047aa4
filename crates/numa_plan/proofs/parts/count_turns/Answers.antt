use Rattle.std.proofs.Common.{ℕ, ◌+◌, get_or, ap, sym, ◌∙◌, arith}
use Rattle.numa_plan.proofs.PartLemmas.{count-small}
use Rattle.numa_plan.proofs.parts.count_turns.Goals as goal

pub returns-then-index-pages-le-SMALL_END : goal.returns-then-index-pages-le-SMALL_END
returns-then-index-pages-le-SMALL_END c node small =
    c.add_turns.ensures node small
    ∙ ap (λ (n : ℕ). get_or c.args.counts.now node 0 + n)
    (sym (count-small c.args.cycle.now node c.args.index c.args.pages
    (omega (arith, c.if-index-pages-le-SMALL_END.true))))
