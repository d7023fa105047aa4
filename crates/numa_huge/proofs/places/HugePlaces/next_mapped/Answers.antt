use Rattle.std.proofs.Common.{◌≡◌, ◌∙◌, ap, arith, subst, sym}
use Rattle.numa_placed.proofs.Stating.{AreLeft, left-fits, left-next}
use Rattle.numa_huge.specs.Huge.{HugePlaced, huge_at, spot_in}
use Rattle.numa_huge.proofs.Found.{at-before, at-behind}
use Rattle.numa_huge.proofs.places.HugePlaces.next_mapped.Goals as goal

pub loop-run-init : goal.loop-run-init
loop-run-init c =
    let part = c.iter_from-run-items.result in
    let all : c.into_iter-run-iterator.result ≡ part =
    c.into_iter-run-iterator.ensures.into_iter_gives in
    record {
      same = λ other low. ap (λ runs. huge_at runs other) all
          ∙ ap spot_in (c.iter_from-run-items.ensures.pages other low)
          ∙ ap (λ (p : HugePlaced). huge_at p.runs other) c.self.view_is;
      left = subst AreLeft (sym all)
          (record { low = 0; apart = c.iter_from-run-items.ensures.rising });
    }

pub overflow_add-behind : goal.overflow_add-behind
overflow_add-behind c =
    omega (
      arith,
      left-fits c.loop-run.run-iterator c.next.new.self c.in-Some.run'
          c.loop-run.invariant.left c.in-Some.ensures.steps,
    )

pub loop-run-preserved : goal.loop-run-preserved
loop-run-preserved c = record {
  same = λ other low. sym (at-behind other c.loop-run.run-iterator c.next.new.self
      c.in-Some.run' c.loop-run.invariant.left c.in-Some.ensures.steps
      (omega (arith, low, c.if-behind-page.false))) ∙ c.loop-run.invariant.same other low;
  left = left-next c.loop-run.run-iterator c.next.new.self c.in-Some.run'
      c.loop-run.invariant.left c.in-Some.ensures.steps;
}

pub returns-then-behind-page-clause-passed : goal.returns-then-behind-page-clause-passed
returns-then-behind-page-clause-passed c other low high =
    sym (c.loop-run.invariant.same other low)
    ∙ at-before other c.loop-run.run-iterator c.next.new.self c.in-Some.run'
    c.loop-run.invariant.left c.in-Some.ensures.steps (omega (arith, low, high))

pub returns-clause-passed : goal.returns-clause-passed
returns-clause-passed c other low high =
    sym (c.loop-run.invariant.same other low)
    ∙ ap (λ runs. huge_at runs other) c.in-None.ensures.steps.0
