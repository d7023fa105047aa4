use Rattle.std.proofs.Common.{◌++◌, ◌∷◌, [], List, ℕ, sym, ap, ◌∙◌, arith}
use Rattle.numa_compile.proofs.RowSteps.{range-more}
use Rattle.numa_compile.proofs.turns.equal_turns.Goals as goal

pub loop-place-preserved : goal.loop-place-preserved
loop-place-preserved c =
    c.in_ok-push.ensures.items
    ∙ ap (λ (xs : List ℕ). xs ++ c.loop-place.place ∷ []) c.loop-place.invariant
    ∙ sym (range-more c.loop-place.place)

pub overflow_cast-place : goal.overflow_cast-place
overflow_cast-place c = omega (arith, c.requires)
