use Rattle.std.proofs.Common.{◌≡◌, ◌∙◌, ap, sym, subst, arith, is_some}
use Rattle.numa_ranges.proofs.Pages.{any_page-false}
use Rattle.numa_space.proofs.Homes.{any_page-within}
use Rattle.numa_placed.proofs.Stating.{AreLeft, left-fits, left-next}
use Rattle.numa_huge.specs.Huge.{HugePlaced, has_huge, huge_at, spot_in}
use Rattle.numa_huge.proofs.Found.{has-behind, has-here, has-none, has-step, left_has}
use Rattle.numa_huge.proofs.places.HugePlaces.has_huge.Goals as goal

pub returns-then-pages-eq0 : goal.returns-then-pages-eq0
returns-then-pages-eq0 c =
    sym (any_page-false (λ page. is_some (huge_at c.args.self.now.runs page)) c.args.first
    c.args.pages (λ page low high. absurd (omega (arith, low, high, c.if-pages-eq0.true))))

pub overflow_add-behind : goal.overflow_add-behind
overflow_add-behind c =
    omega (
      arith,
      left-fits c.loop-run.run-iterator c.next.new.self c.in-Some.run'
          c.loop-run.invariant.left c.in-Some.ensures.steps,
    )

pub loop-run-init : goal.loop-run-init
loop-run-init c =
    let runs = c.self.inside.map.runs in
    let part = c.iter_from-run-items.result in
    let all : c.into_iter-run-iterator.result ≡ part =
    c.into_iter-run-iterator.ensures.into_iter_gives in
    record {
      has = ap (λ left. left_has left c.args.first c.args.pages) all
          ∙ any_page-within (λ page. is_some (huge_at part page))
          (λ page. is_some (huge_at runs page)) c.args.first c.args.pages
          (λ page low high. ap (λ p. is_some (spot_in p))
          (c.iter_from-run-items.ensures.pages page low))
          ∙ ap (λ (p : HugePlaced). has_huge (huge_at p.runs) c.args.first c.args.pages)
          c.self.view_is;
      left = subst AreLeft (sym all)
          (record { low = 0; apart = c.iter_from-run-items.ensures.rising });
    }

pub loop-run-preserved : goal.loop-run-preserved
loop-run-preserved c = record {
  has = sym (has-step c.args.first c.args.pages c.loop-run.run-iterator c.next.new.self
      c.in-Some.run' c.loop-run.invariant.left c.in-Some.ensures.steps
      (omega (arith, c.if-behind-first.false))) ∙ c.loop-run.invariant.has;
  left = left-next c.loop-run.run-iterator c.next.new.self c.in-Some.run'
      c.loop-run.invariant.left c.in-Some.ensures.steps;
}

pub returns-then-run-end : goal.returns-then-run-end
returns-then-run-end c =
    sym (has-behind c.args.first c.args.pages c.loop-run.run-iterator c.next.new.self
    c.in-Some.run' c.loop-run.invariant.left c.in-Some.ensures.steps
    (omega (arith, c.if-run-end.true))) ∙ c.loop-run.invariant.has

pub returns-then-behind-first : goal.returns-then-behind-first
returns-then-behind-first c =
    sym (has-here c.args.first c.args.pages c.loop-run.run-iterator c.next.new.self
    c.in-Some.run' c.loop-run.invariant.left c.in-Some.ensures.steps
    (omega (arith, c.if-pages-eq0.false)) (omega (arith, c.if-run-end.false))
    (omega (arith, c.if-behind-first.true))) ∙ c.loop-run.invariant.has

pub returns : goal.returns
returns c =
    sym (ap (λ left. left_has left c.args.first c.args.pages) c.in-None.ensures.steps.0
    ∙ has-none c.args.first c.args.pages) ∙ c.loop-run.invariant.has
