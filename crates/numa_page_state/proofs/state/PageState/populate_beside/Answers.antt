use Rattle.std.proofs.Common.{◌≡◌, ℕ, Option, ap, refl, subst, sym}
use Rattle.std.specs.Prelude.{Err, Ok}
use Rattle.numa_placed.specs.Laid.{Laid}
use Rattle.numa_placed.specs.Spots.{spot_at}
use Rattle.numa_huge.specs.Huge.{HugeLying}
use Rattle.numa_huge.specs.declared.spot.HugeSpot.{HugeSpot}
use Rattle.numa_page_state.specs.Huge.{HasTouched, TouchesBeside, touched_beside}
use Rattle.numa_page_state.specs.Lying.{ground_in}
use Rattle.numa_page_state.proofs.PartsTouched.{beside-denied, beside-done}
use Rattle.numa_page_state.proofs.state.PageState.populate_beside.Goals as goal

pub returns-in-Ok-touch_beside-clause-does : goal.returns-in-Ok-touch_beside-clause-does
returns-in-Ok-touch_beside-clause-does c memory is lying lies =
    let basis = ground_in c.args.space.now c.args.resident.now in
    let touched = subst (λ (huge : ℕ → Option HugeSpot). TouchesBeside c.in-Ok.placed
    c.args.self.now.rooms basis huge c.args.start c.args.length c.args.task c.args.cpu
    (Ok c.in-Ok-touch_beside.arrived) c.touch_beside.new.placed c.touch_beside.new.rooms)
    (ap (λ (h : HugeLying). h.spots) is) c.in-Ok-touch_beside.ensures in
    let so = touched lying
    (subst (λ (laid : Laid). (page : ℕ) → spot_at laid page ≡ lying.spots page) (sym c.in-Ok.ensures)
    lies.spots) lies.room in
    beside-done c.args.self.now (record {
      placed = c.replace.new.dest;
      rooms = c.touch_beside.new.rooms;
      follows = c.args.self.now.follows;
      last = c.args.self.now.last;
      arrived = c.in-Ok-touch_beside.arrived;
    }) lying lies basis memory c.args.start c.args.length c.args.task c.args.cpu
    c.in-Ok-touch_beside.arrived so.0
    (subst (λ (laid : Laid). HasTouched laid c.touch_beside.new.rooms
    c.in-Ok-touch_beside.arrived (touched_beside basis memory.pages.spots c.args.start
    c.args.length c.args.task c.args.cpu lying)) (sym c.replace.ensures.after) so.1)
    refl refl refl

pub returns-in-Err-clause-does : goal.returns-in-Err-clause-does
returns-in-Err-clause-does c memory is lying lies =
    let basis = ground_in c.args.space.now c.args.resident.now in
    let touched = subst (λ (huge : ℕ → Option HugeSpot). TouchesBeside c.in-Ok.placed
    c.args.self.now.rooms basis huge c.args.start c.args.length c.args.task c.args.cpu
    (Err c.in-Err.why) c.touch_beside.new.placed c.touch_beside.new.rooms)
    (ap (λ (h : HugeLying). h.spots) is) c.in-Err.ensures in
    beside-denied c.args.self.now c.args.self.now lying lies basis memory c.args.start
    c.args.length c.args.task c.args.cpu c.in-Err.why
    (touched lying
    (subst (λ (laid : Laid). (page : ℕ) → spot_at laid page ≡ lying.spots page) (sym c.in-Ok.ensures)
    lies.spots) lies.room) refl
