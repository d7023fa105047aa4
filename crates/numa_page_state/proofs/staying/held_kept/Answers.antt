use Rattle.std.proofs.Common.{◌≡◌, ap, ◌∙◌, arith, length, subst, sym}
use Rattle.numa_maps.specs.Residents.{Kept}
use Rattle.numa_placed.specs.Binds.{goals}
use Rattle.numa_placed.specs.Shifts.{AreRooms}
use Rattle.numa_placed.specs.Spots.{spot_at}
use Rattle.numa_page_state.specs.Sending.{held_kept}
use Rattle.numa_page_state.specs.Standing.{asked_for}
use Rattle.numa_page_state.proofs.Fronts.{before-first}
use Rattle.numa_page_state.proofs.Keeping.{kept-none, kept-step}
use Rattle.numa_page_state.proofs.staying.held_kept.Goals as goal

pub loop-page-init : goal.loop-page-init
loop-page-init c =
    let all : c.into_iter-page-iterator.result ≡ c.args.resident.now =
    c.into_iter-page-iterator.ensures.into_iter_gives ∙ c.iter-page-items.ensures.placed in
    let asked = asked_for c.args.space.now c.args.said.now c.args.toucher in
    record {
      first = omega arith;
      front = λ room are. record {
        rooms = subst (AreRooms c.args.given.now)
            (sym (before-first asked (spot_at c.args.placed.now) room)) are;
      };
      counts = λ room are. omega (
        arith,
        ap (λ (k : Kept). held_kept k asked (goals asked (spot_at c.args.placed.now) room)) all,
      );
      few = omega (
        arith,
        ap (λ (k : Kept). length k) c.into_iter-page-iterator.ensures.into_iter_gives,
        c.iter-page-items.ensures.few,
      );
    }

pub loop-page-preserved : goal.loop-page-preserved
loop-page-preserved c =
    let asked = asked_for c.args.space.now c.args.said.now c.args.toucher in
    record {
      first = c.in-Ok.ensures.first;
      front = λ room are. c.in-Ok.ensures.rooms room are (c.loop-page.invariant.front room are);
      counts = λ room are. kept-step asked (goals asked (spot_at c.args.placed.now) room)
          c.loop-page.page-iterator c.next.new.self
          (c.in-Some.page.now, c.in-Some.placement.now) c.loop-page.left c.in-Ok.one
          (held_kept c.args.resident.now asked (goals asked (spot_at c.args.placed.now) room))
          c.in-Some.ensures.steps (c.loop-page.invariant.counts room are)
          (c.in-Ok.ensures.one room are (c.loop-page.invariant.front room are));
      few = omega (
        arith,
        c.loop-page.invariant.few,
        c.in-Ok.ensures.few,
        ap (λ (k : Kept). length k) c.in-Some.ensures.steps,
      );
    }

pub returns-clause-kept : goal.returns-clause-kept
returns-clause-kept c room are =
    let asked = asked_for c.args.space.now c.args.said.now c.args.toucher in
    kept-none asked (goals asked (spot_at c.args.placed.now) room)
    c.loop-page.page-iterator c.loop-page.left
    (held_kept c.args.resident.now asked (goals asked (spot_at c.args.placed.now) room))
    c.in-None.ensures.steps.0 (c.loop-page.invariant.counts room are)

pub one_kept-requires-clause-first : goal.one_kept-requires-clause-first
one_kept-requires-clause-first c = c.loop-page.invariant.first

pub overflow_add-left : goal.overflow_add-left
overflow_add-left c = omega (
  arith,
  c.loop-page.invariant.few,
  c.in-Ok.ensures.few,
  ap (λ (k : Kept). length k) c.in-Some.ensures.steps,
)

pub returns-clause-few : goal.returns-clause-few
returns-clause-few c = omega (arith, c.loop-page.invariant.few)
