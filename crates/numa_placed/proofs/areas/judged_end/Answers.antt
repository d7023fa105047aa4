use Rattle.std.proofs.Common.{◌≡◌, List, sym, ap, subst, ◌∙◌, arith}
use Rattle.numa_placed.proofs.Stating.{AreLeft, left-fits, left-next}
use Rattle.numa_placed.proofs.Walking.{Range, walk-begins, walk-done, walk-hole, walk-next}
use Rattle.numa_placed.proofs.Walking.{walk-out, walked}
use Rattle.numa_placed.proofs.areas.judged_end.Goals as goal

pub loop-range-init : goal.loop-range-init
loop-range-init c =
    let all : c.into_iter-range-iterator.result ≡ c.args.space.now.ranges =
    c.into_iter-range-iterator.ensures.into_iter_gives ∙ c.range_iter-range-items.ensures.runs in
    record {
      left =
          subst AreLeft (sym all)
          (record { low = 0; apart = c.range_iter-range-items.ensures.rising });
      walk = ap (λ (runs : List Range). walked runs c.args.first c.args.first c.args.end) all;
    }

pub returns-then-page-end : goal.returns-then-page-end
returns-then-page-end c =
    sym (walk-done c.loop-range.range-iterator c.loop-range.area c.loop-range.page c.args.end
    (omega arith)) ∙ (c.loop-range.invariant.walk ∙ walk-begins c.args.space.now.ranges
    c.args.first c.args.end (omega arith) c.range_iter-range-items.ensures.rising
    (λ run held. (c.range_iter-range-items.ensures.ranges run).0 held))

pub returns-then-range-page : goal.returns-then-range-page
returns-then-range-page c =
    sym (walk-hole c.loop-range.range-iterator c.next.new.self c.in-Some.range c.loop-range.area
    c.loop-range.page c.args.end c.in-Some.ensures.steps (λ e. absurd (omega (arith, e)))
    (omega arith)) ∙ (c.loop-range.invariant.walk ∙ walk-begins c.args.space.now.ranges
    c.args.first c.args.end (omega arith) c.range_iter-range-items.ensures.rising
    (λ run held. (c.range_iter-range-items.ensures.ranges run).0 held))

pub overflow_add-range : goal.overflow_add-range
overflow_add-range c =
    let low = left-fits c.loop-range.range-iterator c.next.new.self c.in-Some.range
    c.loop-range.invariant.left c.in-Some.ensures.steps in
    omega (arith, low)

pub loop-range-preserved : goal.loop-range-preserved
loop-range-preserved c = record {
  left = left-next c.loop-range.range-iterator c.next.new.self c.in-Some.range
      c.loop-range.invariant.left c.in-Some.ensures.steps;
  walk = rw (c.area_of-area.ensures) (walk-next c.loop-range.range-iterator c.next.new.self
      c.in-Some.range c.loop-range.area c.loop-range.page c.max-page.result c.args.end
      c.in-Some.ensures.steps (λ e. absurd (omega (arith, e))) (omega arith) (omega arith)
      ∙ c.loop-range.invariant.walk);
}

pub returns-then-page-end-2 : goal.returns-then-page-end-2
returns-then-page-end-2 c =
    sym (walk-done c.loop-range.range-iterator c.loop-range.area c.loop-range.page c.args.end
    (omega arith)) ∙ (c.loop-range.invariant.walk ∙ walk-begins c.args.space.now.ranges
    c.args.first c.args.end (omega arith) c.range_iter-range-items.ensures.rising
    (λ run held. (c.range_iter-range-items.ensures.ranges run).0 held))

pub returns : goal.returns
returns c =
    sym (walk-out c.loop-range.range-iterator c.loop-range.area c.loop-range.page c.args.end
    c.in-None.ensures.steps.0 (λ e. absurd (omega (arith, e))))
    ∙ (c.loop-range.invariant.walk ∙ walk-begins c.args.space.now.ranges c.args.first c.args.end
    (omega arith) c.range_iter-range-items.ensures.rising
    (λ run held. (c.range_iter-range-items.ensures.ranges run).0 held))
