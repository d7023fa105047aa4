use Rattle.std.proofs.Common.{ℕ, zero, suc, ◌<◌, ◌≤◌, Option, List, [], ◌∷◌, get_or, length}
use Rattle.std.proofs.Common.{refl, sym, subst, arith}
use Rattle.numa_mode.specs.Policy.{PolicyRecord}
use Rattle.numa_ranges.proofs.Apart.{apart-from}
use Rattle.numa_ranges.proofs.Fewer.{begins-split}
use Rattle.numa_ranges.specs.Runs.{AreApart, end_of}
use Rattle.numa_ranges.specs.declared.run.Run.{Run}
use Rattle.numa_compile.proofs.recompiler.mbind.policy_begun.Goals as goal

-- no range begins in a span that one from before it reaches over
none-begins : {T : Type 0} (from : ℕ) (runs : List (Run T)) → AreApart from runs → (i j : ℕ)
    (d : Run T) → i ≤ j → j < length runs → (first end : ℕ) → (get_or runs i d).first < first
    → end ≤ end_of (get_or runs i d) → first ≤ (get_or runs j d).first
    → (get_or runs j d).first < end → ⊥
none-begins from [] apart i j d le lt first end over ends low high = absurd (omega arith)
none-begins from (run ∷ runs) apart zero zero d le lt first end over ends low high =
    absurd (omega arith)
none-begins from (run ∷ runs) apart zero (suc j) d le lt first end over ends low high =
    absurd (omega (arith, apart-from (end_of run) runs j d apart.3 (omega arith)))
none-begins from (run ∷ runs) apart (suc i) zero d le lt first end over ends low high =
    absurd (omega arith)
none-begins from (run ∷ runs) apart (suc i) (suc j) d le lt first end over ends low high =
    none-begins (end_of run) runs apart.3 i j d (omega arith) (omega arith) first end over ends
    low high

pub returns-then-reaches_over-clause-inside : goal.returns-then-reaches_over-clause-inside
returns-then-reaches_over-clause-inside c k d low high inside =
    let space = c.args.space.now in
    let window = c.args.window.now in
    let at = begins-split window.first window.end (get_or space.ranges k d) inside in
    let there = sym (c.range_there.ensures.there d) in
    absurd (none-begins 0 space.ranges c.range_there.ensures.rising window.from k d low
    (omega (arith, c.requires.within)) window.first window.end
    (subst (λ (run : Run (Option PolicyRecord)). run.first < window.first) there
    (c.if-reaches_over.ensures.first refl))
    (subst (λ (run : Run (Option PolicyRecord)). window.end ≤ end_of run) there
    (c.if-reaches_over.ensures.end refl)) at.0 at.1)
