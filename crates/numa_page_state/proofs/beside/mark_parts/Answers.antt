use Rattle.std.proofs.Common.{ap, arith, sym, ◌+◌, ◌∙◌, ◌-◌, ℕ}
use Rattle.numa_placed.specs.Spots.{spot_at}
use Rattle.numa_placed.specs.declared.spot.Spot.TheVariants.{Stated}
use Rattle.numa_huge.specs.Huge.{huge_at}
use Rattle.numa_page_state.specs.Huge.{with_parts}
use Rattle.numa_page_state.proofs.Parts.{parts-more, parts-none}
use Rattle.numa_page_state.proofs.beside.mark_parts.Goals as goal

pub loop-page-init : goal.loop-page-init
loop-page-init c = record {
  rises = omega arith;
  high = omega arith;
  spots = λ part. sym (parts-none (Stated 0) (huge_at c.args.huge.now.runs) c.args.span.first
      (c.args.span.first - c.args.span.first) (spot_at c.args.placed.now) part (omega arith));
}

pub mark_run-requires-clause-alike : goal.mark_run-requires-clause-alike
mark_run-requires-clause-alike c other low high =
    c.alike_end-next.ensures.alike other low
    (omega (arith, high, c.alike_end-next.ensures.rises))

pub loop-page-preserved : goal.loop-page-preserved
loop-page-preserved c =
    let next : ℕ = c.alike_end-next.result in
    record {
      rises = omega (arith, c.loop-page.invariant.rises, c.alike_end-next.ensures.rises);
      high = c.alike_end-next.ensures.within;
      spots = λ part. c.in-Ok.ensures part ∙ parts-more (Stated 0) (huge_at c.args.huge.now.runs)
          c.args.span.first c.loop-page.page next (spot_at c.args.placed.now)
          (spot_at c.loop-page.placed) c.loop-page.invariant.rises
          (omega (arith, c.alike_end-next.ensures.rises)) c.loop-page.invariant.spots part;
    }

pub returns : goal.returns
returns c part =
    c.loop-page.invariant.spots part
    ∙ ap (λ (n : ℕ). with_parts (Stated 0) (huge_at c.args.huge.now.runs) c.args.span.first n
    (spot_at c.args.placed.now) part)
    (omega (arith, c.loop-page.invariant.high, c.loop-page-test.false))
