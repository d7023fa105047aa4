use Rattle.std.proofs.Common.{◌≡◌, ℕ, ◌+◌, ◌-◌, ◌%◌, length, length-drop, get_or, sym, ap, ◌∙◌}
use Rattle.std.proofs.Common.{arith}
use Rattle.std.proofs.lemmas.List.{length-take}
use Rattle.numa_machine.specs.Sizes.{turn_at}
use Rattle.numa_plan.proofs.FillLemmas.{fill-more, put_length}
use Rattle.numa_plan.proofs.parts.fill_parts.Goals as goal

pub loop-done-preserved : goal.loop-done-preserved
loop-done-preserved c =
    let count : ℕ = c.min-count.result in
    let size : length c.fill_one.new.out ≡ count = c.fill_one.auto.out
    ∙ simp (length-take, length-drop) (omega (arith, c.min-count.ensures)) in
    record {
      within =
          rw (put_length c.loop-done.done (c.loop-done.done + count - c.loop-done.done)
          c.loop-done.out c.fill_one.new.out (omega (arith, size)) (omega (
            arith,
            c.min-count.ensures,
          )))
          (omega (arith, c.min-count.ensures));
      filled = fill-more
          (λ k. get_or c.args.cycle.now (turn_at (c.args.index + k) % length c.args.cycle.now) 0)
          c.loop-done.done count c.loop-done.out c.fill_one.new.out
          (omega (arith, c.min-count.ensures)) size c.loop-done.invariant.filled
          (λ k lt.
          let part : c.args.index + (c.loop-done.done + k) ≡ c.args.index + c.loop-done.done + k =
          omega arith in
          c.fill_one.ensures k (omega (arith, size, lt)) ∙ c.node_at.ensures
          ∙ ap (λ (n : ℕ). get_or c.args.cycle.now (n % length c.args.cycle.now) 0)
          (sym (ap turn_at part
          ∙ c.parts_left.ensures.same k (omega (arith, c.min-count.ensures, lt)))));
    }
