use Rattle.std.proofs.Common.{◌≡◌, ◌<◌, ◌≤◌, ◌∙◌, ℕ, None, Some, ap, arith, subst, sym}
use Rattle.numa_ranges.specs.Runs.{end_of}
use Rattle.numa_placed.proofs.Stating.{AreLeft, left-fits, left-next}
use Rattle.numa_huge.specs.Huge.{HugePlaced, huge_at, spot_in}
use Rattle.numa_huge.proofs.Found.{at-before, at-behind, at-within}
use Rattle.numa_huge.proofs.places.HugePlaces.alike_end.Goals as goal

pub loop-run-init : goal.loop-run-init
loop-run-init c =
    let part = c.iter_from-run-items.result in
    let all : c.into_iter-run-iterator.result ≡ part =
    c.into_iter-run-iterator.ensures.into_iter_gives in
    record {
      same = λ other low. ap (λ runs. huge_at runs other) all
          ∙ ap spot_in (c.iter_from-run-items.ensures.pages other low)
          ∙ ap (λ (p : HugePlaced). huge_at p.runs other) c.self.view_is;
      left = subst AreLeft (sym all)
          (record { low = 0; apart = c.iter_from-run-items.ensures.rising });
    }

pub overflow_add-behind : goal.overflow_add-behind
overflow_add-behind c =
    omega (
      arith,
      left-fits c.loop-run.run-iterator c.next.new.self c.in-Some.run'
          c.loop-run.invariant.left c.in-Some.ensures.steps,
    )

pub loop-run-preserved : goal.loop-run-preserved
loop-run-preserved c = record {
  same = λ other low. sym (at-behind other c.loop-run.run-iterator c.next.new.self
      c.in-Some.run' c.loop-run.invariant.left c.in-Some.ensures.steps
      (omega (arith, low, c.if-behind-page.false))) ∙ c.loop-run.invariant.same other low;
  left = left-next c.loop-run.run-iterator c.next.new.self c.in-Some.run'
      c.loop-run.invariant.left c.in-Some.ensures.steps;
}

pub returns-then-run-page-clause-alike : goal.returns-then-run-page-clause-alike
returns-then-run-page-clause-alike c other low high =
    let none : (at : ℕ) → c.args.page ≤ at → at < c.in-Some.run'.first
    → huge_at c.args.self.now.runs at ≡ None =
    λ at from below. sym (c.loop-run.invariant.same at from)
    ∙ at-before at c.loop-run.run-iterator c.next.new.self c.in-Some.run'
    c.loop-run.invariant.left c.in-Some.ensures.steps below in
    none other low (omega (arith, high))
    ∙ sym (none c.args.page (omega arith) (omega (arith, c.if-run-page.true)))

pub returns-then-behind-page-clause-alike : goal.returns-then-behind-page-clause-alike
returns-then-behind-page-clause-alike c other low high =
    let there : (at : ℕ) → c.args.page ≤ at → at < end_of c.in-Some.run'
    → huge_at c.args.self.now.runs at ≡ Some c.in-Some.run'.value =
    λ at from below. sym (c.loop-run.invariant.same at from)
    ∙ at-within at c.loop-run.run-iterator c.next.new.self c.in-Some.run'
    c.loop-run.invariant.left c.in-Some.ensures.steps
    (omega (arith, from, c.if-run-page.false)) below in
    there other low (omega (arith, high))
    ∙ sym (there c.args.page (omega arith) (omega (arith, c.if-behind-page.true)))

pub returns-clause-alike : goal.returns-clause-alike
returns-clause-alike c other low high =
    let none : (at : ℕ) → c.args.page ≤ at → huge_at c.args.self.now.runs at ≡ None =
    λ at from. sym (c.loop-run.invariant.same at from)
    ∙ ap (λ runs. huge_at runs at) c.in-None.ensures.steps.0 in
    none other low ∙ sym (none c.args.page (omega arith))
