use Rattle.std.proofs.Common.{◌≡◌, ℕ, ◌+◌, ◌%◌, Bool, eqb, length, length-set, get_or, ap, ◌∙◌}
use Rattle.std.proofs.Common.{sym, arith, add-zero, rules}
use Rattle.numa_machine.specs.Sizes.{turn_at}
use Rattle.numa_ranges.specs.Counts.{count_pages}
use Rattle.numa_plan.proofs.CountLemmas.{count-empty, count-most}
use Rattle.numa_plan.proofs.PartLemmas.{count-hit, part_is, parts-more}
use Rattle.numa_plan.proofs.parts.add_parts.Goals as goal

pub loop-done-init : goal.loop-done-init
loop-done-init c = record {
  within = omega arith;
  long = search rules;
  added = λ node small.
      sym (ap (λ (n : ℕ). get_or c.args.counts.now node 0 + n)
      (count-empty (part_is c.args.cycle.now node) c.args.index) ∙ add-zero _);
}

pub loop-done-preserved : goal.loop-done-preserved
loop-done-preserved c =
    let at : ℕ = c.args.index + c.loop-done.done in
    record {
      within = omega (arith, c.min-count.ensures);
      long = length-set _ _ _ ∙ c.loop-done.invariant.long;
      added = λ node small.
          count-hit (part_is c.args.cycle.now node) c.from.result at c.min-count.result
          c.loop-done.counts node (omega (arith, c.loop-done.invariant.long))
          (λ q lt.
          ap (λ (n : ℕ). eqb (get_or c.args.cycle.now (n % length c.args.cycle.now) 0) node)
          (c.parts_left.ensures.same q (omega (arith, c.min-count.ensures, lt)))
          ∙ ap (λ (n : ℕ). eqb n node) (sym (c.from.ensures ∙ c.node_at.ensures)))
          ∙ ap (λ (n : ℕ). n + count_pages (part_is c.args.cycle.now node) at c.min-count.result)
          (c.loop-done.invariant.added node small)
          ∙ sum (get_or c.args.counts.now node 0)
          (count_pages (part_is c.args.cycle.now node) c.args.index c.loop-done.done)
          (count_pages (part_is c.args.cycle.now node) at c.min-count.result)
          (count_pages (part_is c.args.cycle.now node) c.args.index
          (c.loop-done.done + c.min-count.result))
          (parts-more c.args.cycle.now node c.args.index c.loop-done.done c.min-count.result);
    }
  where
    sum : (a b d e : ℕ) → e ≡ b + d → a + b + d ≡ a + e
    sum a b d e is = omega (arith, is)

pub overflow_add-counts : goal.overflow_add-counts
overflow_add-counts c =
    omega (
      arith,
      c.min-count.ensures,
      c.loop-done.invariant.added c.from.result (omega arith),
      count-most (part_is c.args.cycle.now c.from.result) c.args.index c.loop-done.done,
      c.requires.room c.from.result (omega arith),
    )
