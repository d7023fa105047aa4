use Rattle.std.proofs.Common.{◌≡◌, ap, ◌∙◌, arith, length}
use Rattle.numa_maps.specs.Residents.{Kept}
use Rattle.numa_page_state.specs.Lying.{held_left}
use Rattle.numa_page_state.proofs.HeldPages.{held-none, held-step}
use Rattle.numa_page_state.proofs.frames.held_left.Goals as goal

pub loop-placement-init : goal.loop-placement-init
loop-placement-init c =
    let all : c.into_iter-placement-iterator.result ≡ c.args.resident.now =
    c.into_iter-placement-iterator.ensures.into_iter_gives
    ∙ c.iter-placement-items.ensures.placed in
    record {
      counts = λ go gone. omega (arith, ap (λ (k : Kept). held_left k go) all);
      few = omega (
        arith,
        ap (λ (k : Kept). length k) c.into_iter-placement-iterator.ensures.into_iter_gives,
        c.iter-placement-items.ensures.few,
      );
    }

pub loop-placement-preserved : goal.loop-placement-preserved
loop-placement-preserved c = record {
  counts = λ go gone. held-step go c.loop-placement.placement-iterator c.next.new.self
      (c.in-Some.field-0-0.now, c.in-Some.placement.now) c.loop-placement.left c.goes-one.result
      (held_left c.args.resident.now go) c.in-Some.ensures.steps
      (c.loop-placement.invariant.counts go gone) (c.goes-one.ensures.goes go gone);
  few = omega (
    arith,
    c.loop-placement.invariant.few,
    c.goes-one.ensures.one,
    ap (λ (k : Kept). length k) c.in-Some.ensures.steps,
  );
}

pub returns-clause-left : goal.returns-clause-left
returns-clause-left c go gone =
    held-none go c.loop-placement.placement-iterator c.loop-placement.left
    (held_left c.args.resident.now go) c.in-None.ensures.steps.0
    (c.loop-placement.invariant.counts go gone)
